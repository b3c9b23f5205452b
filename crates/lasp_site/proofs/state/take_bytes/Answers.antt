use Rattle.std.proofs.Common.{sym, subst}
use Rattle.std.specs.Prelude.{Err}
use Rattle.std.specs.Arc.{arc_value}
use Rattle.std.specs.declared.sync.Arc.{Arc}
use Rattle.std.specs.declared.alloc.Global.{Global}
use Rattle.model_graph.specs.Message.{Message}
use Rattle.model_site.specs.Follows.{Gives}
use Rattle.model_site.specs.Site.{file_taken}
use Rattle.model_site.specs.declared.site_failure.SiteFailure.{SiteFailure}
use Rattle.lasp_call.specs.Message.{peer_by}
use Rattle.lasp_site.proofs.StateLaws.{file-given, file-refused}
use Rattle.lasp_site.proofs.state.take_bytes.Goals as goal

pub returns-in-Ok-clause-exact : goal.returns-in-Ok-clause-exact
returns-in-Ok-clause-exact g c =
    file-given (peer_by g.N.Node.view) c.args.me c.args.graph.now c.args.file (g.N.Node.view c.args.node).peer c.args.bytes.now (arc_value c.in-Ok.message) c.take_message.result c.in-Ok.ensures.exact c.take_message.ensures.exact

pub returns-in-Err-clause-exact : goal.returns-in-Err-clause-exact
returns-in-Err-clause-exact g c =
    subst (λ (failure : SiteFailure). Gives (peer_by g.N.Node.view) (file_taken c.args.me c.args.graph.now c.args.file (g.N.Node.view c.args.node).peer c.args.bytes.now) (Err failure)) (sym c.shared_failure.ensures)
    (file-refused (peer_by g.N.Node.view) (λ (m : Arc Message Global). arc_value m) c.args.me c.args.graph.now c.args.file (g.N.Node.view c.args.node).peer c.args.bytes.now c.in-Err.failure c.in-Err.ensures.exact)
