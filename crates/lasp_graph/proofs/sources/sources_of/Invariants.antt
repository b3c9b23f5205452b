use Rattle.std.proofs.Common.{◌≡◌, ◌++◌, drop}
use Rattle.lasp_graph.specs.Sources.{sources_of}
use Rattle.lasp_graph.proofs.sources.sources_of.Given as goal

abbrev pub invariant-loop-var : goal.invariant-loop-var
invariant-loop-var l = l.sources ++ sources_of (drop l.var l.g) (drop l.var l.states) ≡ sources_of l.g l.states
