use Rattle.std.proofs.Common.{ℕ, ◌<◌}
use Rattle.lasp_replica.specs.Jobs.{IsFreeAt}
use Rattle.lasp_replica.proofs.replica.Replica.first_free.Given as goal

abbrev pub invariant-loop-y : goal.invariant-loop-y
invariant-loop-y l = (z : ℕ) → z < l.y → IsFreeAt l.self z → ⊥
