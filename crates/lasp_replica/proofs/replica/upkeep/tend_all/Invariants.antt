use Rattle.std.proofs.Common.{◌≡◌}
use Rattle.lasp_replica.proofs.replica.upkeep.tend_all.Given as goal

abbrev pub invariant-loop-x : goal.invariant-loop-x
invariant-loop-x l = l.states ≡ l.fn.states
