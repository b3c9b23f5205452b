use Rattle.std.proofs.Common.{◌≡◌, List, subst}
use Rattle.model_values.specs.Row.{Row}
use Rattle.model_sets.specs.Rows.{of_rows}
use Rattle.model_sets.specs.Values.{of_values, live_values, visible}
use Rattle.lasp_logset.proofs.KeptLaws.{distinct-apart}
use Rattle.lasp_logset.proofs.ShownLaws.{state-values}
use Rattle.lasp_logset.proofs.set.LogSet.looked.Goals as goal

pub returns-clause-visible : goal.returns-clause-visible
returns-clause-visible c =
    subst (λ (log : List Row). of_values (live_values c.self.inside.rows.entries) ≡ visible (of_rows log)) c.self.view_is
    (state-values c.self.inside.rows.entries c.self.inside.log.items c.self.invariant.kept (distinct-apart c.self.inside.rows.entries c.len-count.ensures.unique))
