use Rattle.std.proofs.Common.{◌≡◌}
use Rattle.lasp_replica.proofs.replica.upkeep.index_for_later.Given as goal

abbrev pub invariant-loop-z : goal.invariant-loop-z
invariant-loop-z l = l.states ≡ l.fn.states
