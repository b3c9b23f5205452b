use Rattle.std.proofs.Common.{List, sym, ap, ◌∙◌}
use Rattle.model_values.specs.Row.{Row}
use Rattle.model_sets.specs.Rows.{of_rows, join}
use Rattle.model_sets.specs.Equations.{changed}
use Rattle.lasp_logset.specs.Whole.{log_in}
use Rattle.lasp_logset.proofs.TakenLaws.{taken-state, taken-told}
use Rattle.lasp_logset.proofs.orset.OrSet.take_in.Goals as goal

pub returns-in-Some-clause-joined : goal.returns-in-Some-clause-joined
returns-in-Some-clause-joined c =
    let before = ap of_rows c.in-Some.ensures.value ∙ ap (λ kept. of_rows (log_in kept)) (sym c.in-Whole.is) ∙ c.self.view_is in
    taken-state c.in-Some.own.now c.args.rows.items c.take_rows.new.self c.in_ok-told.told.items c.in_ok-told.ensures.taken ∙ ap (λ (s : List Row). join s (of_rows c.args.rows.items)) before

pub returns-in-Some-clause-told : goal.returns-in-Some-clause-told
returns-in-Some-clause-told c =
    let before = ap of_rows c.in-Some.ensures.value ∙ ap (λ kept. of_rows (log_in kept)) (sym c.in-Whole.is) ∙ c.self.view_is in
    c.of.ensures ∙ taken-told c.in-Some.own.now c.args.rows.items c.take_rows.new.self c.in_ok-told.told.items c.in_ok-told.ensures.taken ∙ ap (λ (s : List Row). changed s (of_rows c.args.rows.items)) before
