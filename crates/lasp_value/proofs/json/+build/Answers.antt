use Rattle.std.proofs.Common.{◌∙◌}
use Rattle.serde_json.specs.View.{view}
use Rattle.model_values.specs.Json.{written_value}
use Rattle.lasp_value.proofs.Parts.{written-one, written-many, written-two, paired-both}
use Rattle.lasp_value.proofs.json.+build.Goals as goal

pub returns-in-len1 : goal.returns-in-len1
returns-in-len1 t c =
    written-one c.args.j.now c.as_slice.result.now (record { items = c.in-Array.items; array = c.in-Array.is; slice = c.as_slice.ensures.value }) c.in-len1.len_at_least c.in-len1.len_below

pub returns-in-len3-up : goal.returns-in-len3-up
returns-in-len3-up t c =
    written-many c.args.j.now c.as_slice.result.now (record { items = c.in-Array.items; array = c.in-Array.is; slice = c.as_slice.ensures.value }) c.in-len3-up.len_at_least

pub returns-in_ok-new-in-len2-2 : goal.returns-in_ok-new-in-len2-2
returns-in_ok-new-in-len2-2 t c =
    let both = written-two c.args.j.now c.as_slice.result.now c.first-item.result c.second-item.result
    (record { items = c.in-Array.items; array = c.in-Array.is; slice = c.as_slice.ensures.value }) c.in-len2.len_at_least c.in-len2.len_below c.first-item.is c.second-item.is in
    both ∙ paired-both c.build.result c.build-in-len2.result c.in_ok-first-in-len2.first c.in_ok-second-in-len2.second c.in_ok-new-in-len2.field-0.value c.in_ok-new-in-len2-2.field-0.value
    (written_value (view c.first-item.result)) (written_value (view c.second-item.result)) c.build.ensures c.build-in-len2.ensures c.in_ok-first-in-len2.was c.in_ok-second-in-len2.was
    c.in_ok-new-in-len2.ensures.ok c.in_ok-new-in-len2-2.ensures.ok
