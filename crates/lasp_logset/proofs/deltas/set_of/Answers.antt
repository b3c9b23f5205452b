use Rattle.std.proofs.Common.{◌≡◌, List, [], ap, subst, ◌∙◌}
use Rattle.std.specs.Prelude.{IfOk}
use Rattle.model_values.specs.Row.{Row}
use Rattle.model_sets.specs.Rows.{of_rows}
use Rattle.model_sets.specs.Equations.{changed}
use Rattle.lasp_logset.proofs.BehindLaws.{all-new}
use Rattle.lasp_logset.proofs.deltas.set_of.Goals as goal

pub returns : goal.returns
returns c =
    let nothing : c.behind.result ≡ [] = c.behind.ensures ∙ c.of-nothing.ensures ∙ c.new.ensures in
    let all : of_rows (changed c.behind.result c.of_log.result) ≡ of_rows c.args.rows = ap (λ (s : List Row). of_rows s) ((λ i. changed (nothing i) (c.of_log.ensures i)) ∙ all-new c.args.rows) in
    subst (λ (t : List Row). IfOk c.news_of-2.result (λ s. s ≡ t)) all c.news_of-2.ensures
