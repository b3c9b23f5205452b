use Rattle.std.proofs.Common.{◌<◌, length, None}
use Rattle.std.proofs.lemmas.Result.{err_from_is_err_and}
use Rattle.std.proofs.lemmas.List.{length-map}
use Rattle.model_wire.specs.Reader.{list_at, made}
use Rattle.model_wire.specs.Message.{group_at, after_group, rows_of}
use Rattle.lasp_wire.specs.Read.{group_of, mark_of}
use Rattle.lasp_wire.proofs.GroupLoop.{goes_on_groups, ends_groups, is_done_groups, longer}
use Rattle.lasp_wire.proofs.read.groups.groups_of.Goals as goal

pub returns-in_err-group : goal.returns-in_err-group
returns-in_err-group c =
    let p = err_from_is_err_and c.from_residual.result c.from_residual.ensures.1 in
    rw (p.1, p.2) (ends_groups c.in_err-group.field-0.0 c.args.nodes c.loop.rows.items c.args.count c.loop.counter c.loop.rest.now (made rows_of (list_at (group_at c.args.nodes) after_group c.args.count (None, 0)) c.args.bytes.now)
    c.loop-test.true (rw (← c.deref.ensures.value) c.in_err-group.ensures.exact) c.loop.invariant.0)

pub loop-preserved : goal.loop-preserved
loop-preserved c =
    let g = group_of c.in_ok-group.group in
    let e = c.in_ok-push_group.ensures in
    let some : 0 < length g.tokens = rw (length-map c.in_ok-group.group.marks.items mark_of) c.in_ok-group.ensures.some in (
      rw e (goes_on_groups c.args.nodes c.loop.rows.items c.args.count c.loop.counter c.loop.rest.now g c.in_ok-group.after.now (made rows_of (list_at (group_at c.args.nodes) after_group c.args.count (None, 0)) c.args.bytes.now)
          c.loop-test.true some (rw (← c.deref.ensures.value) c.in_ok-group.ensures.exact) c.loop.invariant.0),
      rw (e, longer c.loop.rows.items g, length-map c.in_ok-group.group.marks.items mark_of, ← c.deref.ensures.value) c.in_ok-group.ensures.few,
    )

pub returns : goal.returns
returns c = is_done_groups c.args.nodes c.loop.rows.items c.args.count c.loop.counter c.loop.rest.now (made rows_of (list_at (group_at c.args.nodes) after_group c.args.count (None, 0)) c.args.bytes.now) c.loop-test.false c.loop.invariant.0
