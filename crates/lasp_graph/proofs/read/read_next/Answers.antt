use Rattle.model_readings.proofs.Graphs.{next-decl_read}
use Rattle.lasp_graph.specs.Decl.{decl_of}
use Rattle.lasp_graph.specs.Library.{library_of}
use Rattle.lasp_graph.proofs.read.read_next.Goals as goal

pub returns-in-Ok-clause-next : goal.returns-in-Ok-clause-next
returns-in-Ok-clause-next g c = (next-decl_read (library_of c.args.lib.now) c.args.g.now _ (decl_of c.in-Ok.decl) c.in-Ok.ensures.exact).next
