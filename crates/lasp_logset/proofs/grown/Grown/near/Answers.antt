use Rattle.std.proofs.Common.{◌++◌, [], List, filter, ap, subst, sym, ◌∙◌}
use Rattle.std.specs.Arc.{arc_value}
use Rattle.std.specs.Option.{option_map_or}
use Rattle.model_values.specs.Row.{Row}
use Rattle.model_sets.specs.Rows.{IsAtMost, of_rows, is_of}
use Rattle.lasp_value.specs.Value.{val_of}
use Rattle.lasp_logset.specs.Whole.{standing}
use Rattle.lasp_logset.proofs.BeginLaws.{near-begun, near-begun-apart}
use Rattle.lasp_logset.proofs.grown.Grown.near.Goals as goal

pub returns-in-Some-clause-rows : goal.returns-in-Some-clause-rows
returns-in-Some-clause-rows c =
    let here = c.deref.ensures ∙ sym (ap (λ o. option_map_or arc_value o []) c.in-Some.is) in
    let made = c.of.ensures ∙ (λ i. standing (c.behind.ensures i) c.near.result ++ standing (c.behind.ensures i) c.parts-behind.result.1) in
    near-begun (val_of c.args.value.now) (option_map_or arc_value c.parts-behind.result.0.now []) c.parts-behind.result.1 c.args.self.now c.near.result c.of.result c.parts-behind.ensures.whole
    (c.near.ensures.rows ∙ ap (λ (s : List Row). filter (is_of (val_of c.args.value.now)) (of_rows s)) here) made

pub returns-in-Some-clause-apart : goal.returns-in-Some-clause-apart
returns-in-Some-clause-apart c =
    let here = c.deref.ensures ∙ sym (ap (λ o. option_map_or arc_value o []) c.in-Some.is) in
    let made = c.of.ensures ∙ (λ i. standing (c.behind.ensures i) c.near.result ++ standing (c.behind.ensures i) c.parts-behind.result.1) in
    near-begun-apart (option_map_or arc_value c.parts-behind.result.0.now []) c.parts-behind.result.1 c.args.self.now c.near.result c.of.result c.parts-behind.ensures.whole (subst (λ (s : List Row). IsAtMost c.near.result s) here c.near.ensures.within) c.near.ensures.apart
    c.parts-behind.ensures.rises made
