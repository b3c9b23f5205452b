use Rattle.std.proofs.Common.{Result, sym, subst, ◌∙◌}
use Rattle.model_world.specs.World.{Peer}
use Rattle.model_site.specs.Follows.{Gives}
use Rattle.model_site.specs.declared.site_refusal.SiteRefusal.{SiteRefusal}
use Rattle.lasp_call.specs.Message.{peer_by}
use Rattle.lasp_site.proofs.StateLaws.{own-none, own-some}
use Rattle.lasp_site.proofs.state.take_own.Goals as goal

pub returns-then-is_empty-clause-exact : goal.returns-then-is_empty-clause-exact
returns-then-is_empty-clause-exact g c = own-none c.args.me c.args.graph.now c.args.file (g.N.Node.view c.args.node).peer c.args.bytes.now (sym c.is_empty.ensures ∙ c.if-is_empty.true)

pub returns-clause-exact : goal.returns-clause-exact
returns-clause-exact g c =
    subst (λ (answer : Result Peer SiteRefusal). Gives (peer_by g.N.Node.view) answer c.take_bytes.result)
    (sym (own-some c.args.me c.args.graph.now c.args.file (g.N.Node.view c.args.node).peer c.args.bytes.now (sym c.is_empty.ensures ∙ c.if-is_empty.false))) c.take_bytes.ensures.exact
