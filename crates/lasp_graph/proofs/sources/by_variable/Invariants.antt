use Rattle.lasp_graph.proofs.SourceLists.{IsPlaced}
use Rattle.lasp_graph.proofs.sources.by_variable.Given as goal

abbrev pub invariant-loop-var : goal.invariant-loop-var
invariant-loop-var l = IsPlaced l.g l.sources l.states l.var l.next
