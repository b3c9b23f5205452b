use Rattle.std.proofs.Common.{◌≡◌, take}
use Rattle.lasp_graph.proofs.states.States.try_clone.Given as goal

abbrev pub invariant-loop-i : goal.invariant-loop-i
invariant-loop-i l = l.all ≡ take l.i l.self
