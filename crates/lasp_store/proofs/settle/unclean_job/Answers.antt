use Rattle.std.proofs.Common.{◌≡◌, ℕ, true, false, sym, subst, ◌∙◌}
use Rattle.model_graph.specs.Lawful.{IsDerived}
use Rattle.model_journal.specs.Journal.{graph}
use Rattle.model_core.specs.Core.{Core}
use Rattle.lasp_core.proofs.JobLaws.{job-derived}
use Rattle.lasp_replica.specs.Jobs.{IsUnclean}
use Rattle.lasp_store.proofs.settle.unclean_job.Goals as goal

pub returns-in-Ok-clause-unclean : goal.returns-in-Ok-clause-unclean
returns-in-Ok-clause-unclean c =
    let core : Core = c.args.core.now in
    let now = c.in-Ok.ensures.job in
    subst (λ (x : Core). IsUnclean x.frame x.entries c.args.var) (sym c.in-Ok.ensures.taken) (record {
      derived = subst (λ (y : ℕ). IsDerived (graph core.frame core.entries) y) now.var (job-derived core.frame core.entries c.args.var c.in-Ok.job now);
      lacks = λ clean. absurd (let same : true ≡ false = sym (c.is_clean.ensures.1 clean) ∙ c.if-is_clean.false in cc);
    })
