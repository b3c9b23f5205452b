use Rattle.std.proofs.Common.{◌∙◌, sym, ap, ◌+◌, map, drop, arith}
use Rattle.serde_json.specs.View.{view}
use Rattle.lasp_value.specs.Value.{val_of}
use Rattle.lasp_graph.proofs.Items.{next_item, no_item}
use Rattle.lasp_script.specs.Made.{values_from}
use Rattle.lasp_script.proofs.Steps.{values_from-next, values_from-stop, values_from-end}
use Rattle.lasp_script.proofs.payload.read_values.Goals as goal

pub returns-in-Err : goal.returns-in-Err
returns-in-Err c =
    let whole = ap (values_from c.loop-j.values) (sym (next_item c.args.items.now c.loop-j.j-index c.j-item.result c.loop-j-test.true c.j-item.is)) ∙ c.loop-j.invariant in
    rw (← whole) (values_from-stop c.loop-j.values (view c.j-item.result) (map view (drop (c.loop-j.j-index + 1) c.args.items.now)) c.in-Err.refused c.in-Err.ensures)

pub loop-j-preserved : goal.loop-j-preserved
loop-j-preserved c =
    rw c.in_ok-push-in-Ok.ensures.ok
    (sym (values_from-next c.loop-j.values (view c.j-item.result) (map view (drop (c.loop-j.j-index + 1) c.args.items.now)) (val_of c.in-Ok.value) c.in-Ok.ensures)
    ∙ ap (values_from c.loop-j.values) (sym (next_item c.args.items.now c.loop-j.j-index c.j-item.result c.loop-j-test.true c.j-item.is))
    ∙ c.loop-j.invariant)

pub returns : goal.returns
returns c =
    sym c.loop-j.invariant ∙ ap (values_from c.loop-j.values) (no_item c.args.items.now c.loop-j.j-index (omega arith)) ∙ values_from-end c.loop-j.values
