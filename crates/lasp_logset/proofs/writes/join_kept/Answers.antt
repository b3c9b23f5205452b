use Rattle.std.proofs.Common.{List, ap, ◌∙◌}
use Rattle.model_values.specs.Row.{Row}
use Rattle.model_sets.specs.Rows.{of_rows, join}
use Rattle.lasp_logset.proofs.WholeLaws.{joined-rows}
use Rattle.lasp_logset.proofs.writes.join_kept.Goals as goal

pub returns-in_ok-new-in-Past-clause-ok : goal.returns-in_ok-new-in-Past-clause-ok
returns-in_ok-new-in-Past-clause-ok c =
    let here = c.in_ok-set-in-Past.ensures ∙ c.past.ensures in
    rw c.in-Past.is (
    ap (λ (s : List Row). of_rows s) c.in_ok-new-in-Past.ensures.ok ∙ joined-rows c.in_ok-set-in-Past.set c.join_log.new.self c.log-log.result.now.items c.in_ok-grew-in-Past.ensures.ok
    ∙ (λ i. join (of_rows (here i)) (c.log-log.ensures.rows i))
    )
