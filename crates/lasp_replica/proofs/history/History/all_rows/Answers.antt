use Rattle.std.proofs.Common.{◌≡◌, List, ap, subst, ◌∙◌}
use Rattle.std.specs.Prelude.{IfOk}
use Rattle.model_values.specs.Row.{Row}
use Rattle.model_sets.specs.Rows.{of_rows, join}
use Rattle.lasp_replica.specs.Kept.{Kept}
use Rattle.lasp_replica.proofs.KeptLaws.{all-joined}
use Rattle.lasp_replica.proofs.history.History.all_rows.Goals as goal

pub returns : goal.returns
returns c =
    subst (λ (rows : List Row). IfOk c.joined.result (λ s. s ≡ rows))
    (ap (λ (rows : List Row). join c.self.inside.first (of_rows rows)) c.deref.ensures.value ∙ all-joined c.self.inside.first c.self.inside.log.items c.ascends.ensures ∙ ap (λ (k : Kept). of_rows k.history.log) c.self.view_is)
    c.joined.ensures
