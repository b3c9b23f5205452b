use Rattle.std.proofs.Common.{subst, sym, ◌∙◌}
use Rattle.model_sets.specs.Rises.{AreApart}
use Rattle.lasp_logset.proofs.WholeLaws.{apart-counted}
use Rattle.lasp_logset.proofs.orset.OrSet.entries.Goals as goal

pub returns-then-rows-version-clause-apart : goal.returns-then-rows-version-clause-apart
returns-then-rows-version-clause-apart c =
    subst AreApart (sym (c.of_log.ensures ∙ c.iter-then-rows-version.ensures ∙ c.log.ensures.items)) (apart-counted c.past-past.result.now (sym c.rows.ensures.exact ∙ c.if-rows-version.true ∙ c.version.ensures.exact))
