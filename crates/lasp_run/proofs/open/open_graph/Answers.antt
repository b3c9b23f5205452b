use Rattle.std.specs.Arc.{arc_value}
use Rattle.model_readings.specs.Graph.{graph_of}
use Rattle.model_program.specs.Follows.{view}
use Rattle.model_program.specs.Program.{graph_refused}
use Rattle.lasp_graph.specs.Library.{library_of}
use Rattle.lasp_call.specs.Words.{words_of}
use Rattle.lasp_run.proofs.OpenLaws.{performs-opens}
use Rattle.lasp_run.proofs.open.open_graph.Goals as goal

pub returns-clause-part : goal.returns-clause-part
returns-clause-part g c =
    performs-opens arc_value (words_of c.args.words.now) (view (g.F.Files.content c.args.files.now) (g.F.Files.faults c.args.files.now) (g.F.Files.faults c.open_graph.new.files)) 1 graph_refused (graph_of (library_of c.args.lib.now)) c.open_graph.result c.open_graph.ensures.opens
