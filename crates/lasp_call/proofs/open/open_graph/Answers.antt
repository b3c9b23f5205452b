use Rattle.std.proofs.Common.{List, ℕ, subst}
use Rattle.std.specs.declared.vec.Vec.{Vec}
use Rattle.std.specs.declared.alloc.Global.{Global}
use Rattle.std.specs.Arc.{arc_value}
use Rattle.std.specs.declared.sync.Arc.{Arc}
use Rattle.model_graph.specs.Chain.{refusing}
use Rattle.model_graph.specs.Graph.{Decl}
use Rattle.model_readings.specs.Graph.{graph_of}
use Rattle.model_program.specs.Program.{graph_refused}
use Rattle.model_program.specs.Follows.{view, Gives}
use Rattle.lasp_graph.specs.Library.{library_of}
use Rattle.lasp_call.specs.Words.{words_of}
use Rattle.lasp_call.proofs.OpenLaws.{opens-then, opens-failed}
use Rattle.lasp_call.proofs.open.open_graph.Goals as goal

pub returns-in-Ok-clause-opens : goal.returns-in-Ok-clause-opens
returns-in-Ok-clause-opens g c =
    opens-then arc_value (words_of c.args.words.now) (view (g.F.Files.content c.args.files.now) (g.F.Files.faults c.args.files.now) (g.F.Files.faults c.read_file.new.files)) c.args.file c.in-Ok.bytes.items
    (λ (bytes : List ℕ). refusing graph_refused (graph_of (library_of c.args.lib.now) bytes)) c.graph_from.result c.in-Ok.ensures.opens
    (subst (λ (bytes : List ℕ). Gives arc_value (refusing graph_refused (graph_of (library_of c.args.lib.now) bytes)) c.graph_from.result) c.deref.ensures.value c.graph_from.ensures.exact)

pub returns-in-Err-clause-opens : goal.returns-in-Err-clause-opens
returns-in-Err-clause-opens g c =
    opens-failed (λ (read : Vec ℕ Global). read.items) (λ (graph : Arc (List Decl) Global). arc_value graph) (words_of c.args.words.now) (view (g.F.Files.content c.args.files.now) (g.F.Files.faults c.args.files.now) (g.F.Files.faults c.read_file.new.files)) c.args.file
    (λ (bytes : List ℕ). refusing graph_refused (graph_of (library_of c.args.lib.now) bytes)) c.in-Err.failure c.in-Err.ensures.opens
