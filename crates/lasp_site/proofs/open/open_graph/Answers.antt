use Rattle.std.proofs.Common.{sym, subst}
use Rattle.std.specs.Arc.{arc_value}
use Rattle.std.specs.declared.sync.Arc.{Arc}
use Rattle.std.specs.declared.alloc.Global.{Global}
use Rattle.std.specs.Prelude.{List}
use Rattle.model_graph.specs.Graph.{Decl}
use Rattle.model_readings.specs.Graph.{graph_of}
use Rattle.model_program.specs.Program.{graph_refused}
use Rattle.model_site.specs.Program.{opening}
use Rattle.lasp_graph.specs.Library.{library_of}
use Rattle.model_program.specs.Follows.{view}
use Rattle.model_site.specs.Follows.{Stops}
use Rattle.model_site.specs.declared.site_failure.SiteFailure.{SiteFailure}
use Rattle.lasp_call.specs.Words.{words_of}
use Rattle.lasp_site.proofs.OpenLaws.{passes-opens, stops-opens}
use Rattle.lasp_site.proofs.open.open_graph.Goals as goal

pub returns-in-Ok-clause-part : goal.returns-in-Ok-clause-part
returns-in-Ok-clause-part g c =
    passes-opens arc_value (words_of c.args.words.now) (view (g.F.Files.content c.args.files.now) (g.F.Files.faults c.args.files.now) (g.F.Files.faults c.open_graph.new.files)) 0
    graph_refused (graph_of (library_of c.args.lib.now)) c.in-Ok.graph c.in-Ok.ensures.opens

pub returns-in-Err-clause-part : goal.returns-in-Err-clause-part
returns-in-Err-clause-part g c =
    let v = (view (g.F.Files.content c.args.files.now) (g.F.Files.faults c.args.files.now) (g.F.Files.faults c.open_graph.new.files)) in
    subst (λ (failure : SiteFailure). Stops (words_of c.args.words.now) v (opening (library_of c.args.lib.now)) failure) (sym c.shared_failure.ensures)
    (stops-opens (λ (graph : Arc (List Decl) Global). arc_value graph) (words_of c.args.words.now) v 0 graph_refused (graph_of (library_of c.args.lib.now)) c.in-Err.failure c.in-Err.ensures.opens)
