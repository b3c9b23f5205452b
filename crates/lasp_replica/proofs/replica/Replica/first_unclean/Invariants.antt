use Rattle.std.proofs.Common.{ℕ, ◌<◌}
use Rattle.lasp_replica.specs.Jobs.{IsUncleanAt}
use Rattle.lasp_replica.proofs.replica.Replica.first_unclean.Given as goal

abbrev pub invariant-loop-y : goal.invariant-loop-y
invariant-loop-y l = (z : ℕ) → z < l.y → IsUncleanAt l.self z → ⊥
