use Rattle.std.proofs.Common.{◌≡◌, take}
use Rattle.lasp_graph.proofs.graph.Graph.try_clone.Given as goal

abbrev pub invariant-loop-var : goal.invariant-loop-var
invariant-loop-var l = l.graph ≡ take l.var l.self
