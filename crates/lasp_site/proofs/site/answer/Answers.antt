use Rattle.std.proofs.Common.{◌-◌, ◌∙◌, ℕ, length, Option, Err, refl, sym, subst}
use Rattle.model_program.specs.Follows.{View, view}
use Rattle.model_program.specs.declared.refusal.Refusal.TheVariants.{Usage}
use Rattle.model_site.specs.Follows.{Follows}
use Rattle.model_site.specs.Program.{plan_of, plan}
use Rattle.model_site.specs.declared.site_failure.SiteFailure.{SiteFailure}
use Rattle.model_site.specs.declared.site_failure.SiteFailure.TheVariants.{Refused}
use Rattle.model_site.specs.declared.site_refusal.SiteRefusal.TheVariants.{Shared}
use Rattle.model_site.proofs.PlanLaws.{follows-says}
use Rattle.lasp_graph.specs.Library.{library_of}
use Rattle.lasp_call.specs.Words.{words_of}
use Rattle.lasp_site.proofs.site.answer.Goals as goal

pub returns-in-None-clause-follows : goal.returns-in-None-clause-follows
returns-in-None-clause-follows g c =
    let v : View = view (g.F.Files.content c.args.files.now) (g.F.Files.faults c.args.files.now) (g.F.Files.faults c.args.files.now) in
    subst (λ (failure : SiteFailure). Follows (words_of c.args.words.now) v (plan (library_of c.args.lib.now) (words_of c.args.words.now)) (Err failure)) (sym c.shared.ensures)
    (subst (λ (site : Option ℕ). Follows (words_of c.args.words.now) v (plan_of (library_of c.args.lib.now) (length (words_of c.args.words.now) - 4) site) (Err (Refused (Shared Usage)))) (sym c.in-None.is ∙ c.site_of.ensures.exact)
    (follows-says (words_of c.args.words.now) v (Err (Shared Usage)) (Err (Refused (Shared Usage))) refl))
