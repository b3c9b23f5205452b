use Rattle.std.proofs.Common.{◌∙◌, sym, ap, Err}
use Rattle.std.proofs.lemmas.Result.{err_from_is_err_and}
use Rattle.serde_json.specs.View.{view}
use Rattle.model_values.specs.Json.{written_value}
use Rattle.lasp_value.specs.Size.{measured}
use Rattle.lasp_value.proofs.Parts.{written-none, written-one, written-many, written-two}
use Rattle.lasp_value.proofs.Sizes.{measured-first, measured-second, measured-both}
use Rattle.lasp_value.proofs.size.+measure.Goals as goal

pub returns-in-empty : goal.returns-in-empty
returns-in-empty t c =
    sym (ap measured (written-none c.args.j.now c.as_slice.result.now (record { items = c.in-Array.items; array = c.in-Array.is; slice = c.as_slice.ensures.value }) c.in-empty.len_below))

pub returns-in-len1 : goal.returns-in-len1
returns-in-len1 t c =
    sym (ap measured (written-one c.args.j.now c.as_slice.result.now (record { items = c.in-Array.items; array = c.in-Array.is; slice = c.as_slice.ensures.value }) c.in-len1.len_at_least c.in-len1.len_below))

pub returns-in-len3-up : goal.returns-in-len3-up
returns-in-len3-up t c =
    sym (ap measured (written-many c.args.j.now c.as_slice.result.now (record { items = c.in-Array.items; array = c.in-Array.is; slice = c.as_slice.ensures.value }) c.in-len3-up.len_at_least))

pub returns-in_err-size-in-len2 : goal.returns-in_err-size-in-len2
returns-in_err-size-in-len2 t c =
    let both = written-two c.args.j.now c.as_slice.result.now c.first-item.result c.second-item.result
    (record { items = c.in-Array.items; array = c.in-Array.is; slice = c.as_slice.ensures.value }) c.in-len2.len_at_least c.in-len2.len_below c.first-item.is c.second-item.is in
    let first = sym (c.in_err-size-in-len2.was) ∙ c.measure.ensures in
    let p = err_from_is_err_and c.from_residual.result c.from_residual.ensures.1 in
    let e = c.in_err-size-in-len2.field-0.0 in
    p.1 ∙ ap Err p.2 ∙ sym (ap measured both ∙ measured-first (written_value (view c.first-item.result)) (written_value (view c.second-item.result)) e first)

pub returns-in_err-measure-in-len2 : goal.returns-in_err-measure-in-len2
returns-in_err-measure-in-len2 t c =
    let both = written-two c.args.j.now c.as_slice.result.now c.first-item.result c.second-item.result
    (record { items = c.in-Array.items; array = c.in-Array.is; slice = c.as_slice.ensures.value }) c.in-len2.len_at_least c.in-len2.len_below c.first-item.is c.second-item.is in
    let p = err_from_is_err_and c.from_residual-in_err-measure-in-len2.result c.from_residual-in_err-measure-in-len2.ensures.1 in
    let first = sym (c.in_ok-size-in-len2.was) ∙ c.measure.ensures in
    let second = sym (c.in_err-measure-in-len2.was) ∙ c.measure-in-len2.ensures in
    let e = c.in_err-measure-in-len2.field-0.0 in
    p.1 ∙ ap Err p.2
    ∙ sym (ap measured both ∙ measured-second (written_value (view c.first-item.result)) (written_value (view c.second-item.result)) c.in_ok-size-in-len2.size e first second)

pub returns-in_ok-measure-in-len2 : goal.returns-in_ok-measure-in-len2
returns-in_ok-measure-in-len2 t c =
    let both = written-two c.args.j.now c.as_slice.result.now c.first-item.result c.second-item.result
    (record { items = c.in-Array.items; array = c.in-Array.is; slice = c.as_slice.ensures.value }) c.in-len2.len_at_least c.in-len2.len_below c.first-item.is c.second-item.is in
    let first = sym (c.in_ok-size-in-len2.was) ∙ c.measure.ensures in
    let second = sym (c.in_ok-measure-in-len2.was) ∙ c.measure-in-len2.ensures in
    sym (ap measured both ∙ measured-both (written_value (view c.first-item.result)) (written_value (view c.second-item.result)) c.in_ok-size-in-len2.size c.in_ok-measure-in-len2.field-0 c.plus.result first second c.plus.ensures.leaves c.plus.ensures.text_bytes)
