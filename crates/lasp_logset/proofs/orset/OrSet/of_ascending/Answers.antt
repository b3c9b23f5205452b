use Rattle.std.proofs.Common.{List, ap, subst, sym, ◌∙◌}
use Rattle.model_values.specs.Row.{Row}
use Rattle.model_sets.specs.Rows.{of_rows}
use Rattle.model_sets.specs.Rises.{AreApart}
use Rattle.model_sets.proofs.RowLaws.{of_rows-ascending}
use Rattle.model_sets.proofs.RiseLaws.{ascending-apart}
use Rattle.lasp_logset.proofs.orset.OrSet.of_ascending.Goals as goal

pub of_apart-requires-clause-apart : goal.of_apart-requires-clause-apart
of_apart-requires-clause-apart c = subst AreApart (sym (c.close.ensures ∙ c.in_ok-log.ensures)) (ascending-apart c.args.rows.items c.requires)

pub returns : goal.returns
returns c = c.of_past.ensures ∙ ap (λ (s : List Row). of_rows s) (c.of_apart.ensures ∙ c.close.ensures ∙ c.in_ok-log.ensures) ∙ of_rows-ascending c.args.rows.items c.requires
