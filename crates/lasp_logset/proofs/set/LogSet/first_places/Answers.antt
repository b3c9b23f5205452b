use Rattle.std.proofs.Common.{◌≡◌, List, subst}
use Rattle.model_values.specs.Row.{Row}
use Rattle.model_sets.specs.Rows.{of_rows}
use Rattle.lasp_logset.proofs.KeptLaws.{kept-state, distinct-apart}
use Rattle.lasp_logset.proofs.set.LogSet.first_places.Goals as goal

pub returns-clause-state : goal.returns-clause-state
returns-clause-state c =
    subst (λ (log : List Row). of_rows c.self.inside.rows.entries ≡ of_rows log) c.self.view_is (kept-state c.self.inside.rows.entries c.self.inside.log.items c.self.invariant.kept)

pub returns-clause-apart : goal.returns-clause-apart
returns-clause-apart c = distinct-apart c.self.inside.rows.entries c.len-count.ensures.unique
