use Rattle.lasp_graph.specs.Library.{library_of}
use Rattle.lasp_script.specs.Progress.{progress_over}
use Rattle.lasp_script.specs.Usual.{IsReadTo}
use Rattle.lasp_script.proofs.usual.take_parts.Given as goal

abbrev pub invariant-loop : goal.invariant-loop
invariant-loop g l = IsReadTo (library_of l.lib) l.g l.bytes l.nodes (progress_over l.g l.progress) l.rest
