use Rattle.std.proofs.Common.{sym, subst}
use Rattle.model_graph.specs.Graph.{name_at}
use Rattle.model_program.specs.declared.refusal.Refusal.TheVariants.{TooLarge}
use Rattle.model_site.specs.declared.site_refusal.SiteRefusal.TheVariants.{Shared}
use Rattle.model_site.specs.declared.site_failure.SiteFailure.{SiteFailure}
use Rattle.lasp_site.specs.Failure.{IsRefusal}
use Rattle.lasp_site.proofs.StateLaws.{refusal-shared}
use Rattle.lasp_site.proofs.update.too_large.Goals as goal

pub returns : goal.returns
returns c =
    subst (λ (failure : SiteFailure). IsRefusal (Shared (TooLarge c.args.number c.args.me (name_at c.args.graph.now c.args.var))) failure) (sym c.shared_failure.ensures)
    (refusal-shared (TooLarge c.args.number c.args.me (name_at c.args.graph.now c.args.var)) c.too_large.result c.too_large.ensures)
