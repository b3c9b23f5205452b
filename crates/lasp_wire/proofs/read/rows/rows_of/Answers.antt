use Rattle.std.proofs.Common.{None}
use Rattle.std.proofs.lemmas.Result.{err_from_is_err_and}
use Rattle.model_values.specs.Row.{Row}
use Rattle.model_wire.specs.Reader.{list_at}
use Rattle.model_wire.specs.Value.{latest}
use Rattle.model_wire.specs.Message.{row_after_at}
use Rattle.lasp_wire.specs.Read.{last_of}
use Rattle.lasp_wire.proofs.Loop.{goes_on_last, ends, is_done}
use Rattle.lasp_wire.proofs.read.rows.rows_of.Goals as goal

pub returns-in_err-row : goal.returns-in_err-row
returns-in_err-row c =
    let read = row_after_at c.args.nodes in
    let p = err_from_is_err_and c.from_residual.result c.from_residual.ensures.1 in
    rw (p.1, p.2) (ends _ Row read latest c.in_err-row.field-0.0 c.loop.rows.items c.args.count c.loop.counter (last_of c.loop.rows.items) c.loop.rest.now (list_at read latest c.args.count None c.args.bytes.now)
    c.loop-test.true (rw (← c.deref.ensures.value) c.in_err-row.ensures) c.loop.invariant)

pub loop-preserved : goal.loop-preserved
loop-preserved c =
    let read = row_after_at c.args.nodes in
    rw c.in_ok-push.ensures.items (goes_on_last Row read c.loop.rows.items c.args.count c.loop.counter c.loop.rest.now c.in_ok-row.row c.in_ok-row.after.now (list_at read latest c.args.count None c.args.bytes.now)
    c.loop-test.true (rw (← c.deref.ensures.value) c.in_ok-row.ensures) c.loop.invariant)

pub returns : goal.returns
returns c =
    let read = row_after_at c.args.nodes in
    is_done _ Row read latest c.loop.rows.items c.args.count c.loop.counter (last_of c.loop.rows.items) c.loop.rest.now (list_at read latest c.args.count None c.args.bytes.now) c.loop-test.false c.loop.invariant
