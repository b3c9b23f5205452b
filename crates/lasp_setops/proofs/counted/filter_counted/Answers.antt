use Rattle.std.proofs.Common.{◌∙◌, refl, sym, ap, subst, ◌<◌, length, ◌+◌}
use Rattle.model_functions.specs.Predicate.{passes}
use Rattle.model_sets.specs.Equations.{filter_set}
use Rattle.lasp_value.specs.Value.{val_of}
use Rattle.lasp_setops.proofs.EntryLaws.{same-length}
use Rattle.lasp_fns.specs.Library.{predicates_of, pred_ops_at}
use Rattle.lasp_fns.specs.Steps.{library_of, ticks_of}
use Rattle.lasp_setops.proofs.TickLaws.{tick-start, tick-next, tick-stopped}
use Rattle.lasp_setops.proofs.JoinLaws.{first-kept, next-kept, next-left, last-kept}
use Rattle.lasp_setops.proofs.WidthLaws.{sized-row, width-entries, width-rest}
use Rattle.lasp_setops.proofs.counted.filter_counted.Goals as goal

pub loop-row-init : goal.loop-row-init
loop-row-init g c = (
  first-kept (passes (pred_ops_at (library_of c.args.lib.now) c.args.p)) c.empty-out.result c.in_ok-rows.rows c.args.x.now c.empty-out.ensures c.in_ok-rows.ensures.rows c.ascends.ensures,
  width-entries 16 c.in_ok-rows.rows c.args.x.now c.in_ok-rows.ensures.rows c.requires.width,
  refl,
  tick-start (ticks_of c.args.lib.now) c.in_ok-rows.rows c.args.x.now (same-length c.in_ok-rows.rows c.args.x.now c.in_ok-rows.ensures.apart c.in_ok-rows.ensures.rows),
)

pub call_pred-requires-clause-sized : goal.call_pred-requires-clause-sized
call_pred-requires-clause-sized g c =
    sized-row c.loop-row.rows c.next.new.self c.in-Some.row (val_of c.value-value.result.now) c.in-Some.ensures.some c.value-value.ensures c.loop-row.invariant.1 c.recall_ints.ensures

pub call_pred-requires-clause-place : goal.call_pred-requires-clause-place
call_pred-requires-clause-place g c = subst (λ l. c.args.p < length (predicates_of l)) (sym c.loop-row.invariant.2) c.requires.place

pub returns-in_err-kept-clause-library : goal.returns-in_err-kept-clause-library
returns-in_err-kept-clause-library g c = c.call_pred.ensures.library ∙ c.loop-row.invariant.2

pub returns-in_err-kept-clause-ticks : goal.returns-in_err-kept-clause-ticks
returns-in_err-kept-clause-ticks g c = tick-stopped (ticks_of c.loop-row.lib) (ticks_of c.call_pred.new.self) (ticks_of c.args.lib.now + length c.args.x.now) c.loop-row.rows c.next.new.self c.in-Some.row c.in-Some.ensures.some c.call_pred.ensures.ticks c.loop-row.invariant.3

pub returns-in_err-add-clause-library : goal.returns-in_err-add-clause-library
returns-in_err-add-clause-library g c = c.call_pred.ensures.library ∙ c.loop-row.invariant.2

pub returns-in_err-add-clause-ticks : goal.returns-in_err-add-clause-ticks
returns-in_err-add-clause-ticks g c = tick-stopped (ticks_of c.loop-row.lib) (ticks_of c.call_pred.new.self) (ticks_of c.args.lib.now + length c.args.x.now) c.loop-row.rows c.next.new.self c.in-Some.row c.in-Some.ensures.some c.call_pred.ensures.ticks c.loop-row.invariant.3

pub loop-row-preserved-in-Continue-branch-3 : goal.loop-row-preserved-in-Continue-branch-3
loop-row-preserved-in-Continue-branch-3 g c = (
  next-kept (passes (pred_ops_at (library_of c.args.lib.now) c.args.p)) c.loop-row.out c.add.new.self c.loop-row.rows c.next.new.self (filter_set (passes (pred_ops_at (library_of c.args.lib.now) c.args.p)) c.args.x.now) c.in-Some.row c.in_ok-kept.kept (val_of c.value-value.result.now) c.in-Some.ensures.some c.value-value.ensures
      (ap (λ l. passes (pred_ops_at l c.args.p) (val_of c.value-value.result.now)) (sym c.loop-row.invariant.2) ∙ sym c.call_pred.ensures.answer ∙ c.if-call_pred.true) c.in_ok-kept.ensures c.in_ok-add.ensures.ok c.loop-row.invariant.0,
  width-rest 16 c.loop-row.rows c.next.new.self c.in-Some.row c.in-Some.ensures.some c.loop-row.invariant.1,
  c.call_pred.ensures.library ∙ c.loop-row.invariant.2,
  tick-next (ticks_of c.loop-row.lib) (ticks_of c.call_pred.new.self) (ticks_of c.args.lib.now + length c.args.x.now) c.loop-row.rows c.next.new.self c.in-Some.row c.in-Some.ensures.some c.call_pred.ensures.ticks c.loop-row.invariant.3,
)

pub loop-row-preserved : goal.loop-row-preserved
loop-row-preserved g c = (
  next-left (passes (pred_ops_at (library_of c.args.lib.now) c.args.p)) c.loop-row.out c.loop-row.rows c.next.new.self (filter_set (passes (pred_ops_at (library_of c.args.lib.now) c.args.p)) c.args.x.now) c.in-Some.row (val_of c.value-value.result.now) c.in-Some.ensures.some c.value-value.ensures
      (ap (λ l. passes (pred_ops_at l c.args.p) (val_of c.value-value.result.now)) (sym c.loop-row.invariant.2) ∙ sym c.call_pred.ensures.answer ∙ c.if-call_pred.false) c.loop-row.invariant.0,
  width-rest 16 c.loop-row.rows c.next.new.self c.in-Some.row c.in-Some.ensures.some c.loop-row.invariant.1,
  c.call_pred.ensures.library ∙ c.loop-row.invariant.2,
  tick-next (ticks_of c.loop-row.lib) (ticks_of c.call_pred.new.self) (ticks_of c.args.lib.now + length c.args.x.now) c.loop-row.rows c.next.new.self c.in-Some.row c.in-Some.ensures.some c.call_pred.ensures.ticks c.loop-row.invariant.3,
)

pub returns-clause-ok : goal.returns-clause-ok
returns-clause-ok g c = last-kept (passes (pred_ops_at (library_of c.args.lib.now) c.args.p)) c.loop-row.out c.loop-row.rows (filter_set (passes (pred_ops_at (library_of c.args.lib.now) c.args.p)) c.args.x.now) c.in_default.ensures.none c.loop-row.invariant.0
