use Rattle.std.proofs.Common.{◌∙◌, ◌<◌, length, sym, ap, subst, arith, take_all}
use Rattle.model_functions.specs.Predicate.{passes}
use Rattle.model_sets.specs.Equations.{filter_set}
use Rattle.lasp_value.specs.Value.{val_of}
use Rattle.lasp_fns.specs.Library.{predicates_of, pred_ops_at}
use Rattle.lasp_fns.specs.Steps.{library_of}
use Rattle.lasp_setops.proofs.ListedLaws.{kept-more, kept-as_before, filter-listed, sized-listed}
use Rattle.lasp_setops.proofs.listed.filter_rows.Goals as goal

pub call_pred-requires-clause-place : goal.call_pred-requires-clause-place
call_pred-requires-clause-place g c = subst (λ l. c.args.p < length (predicates_of l)) (sym c.loop-row.invariant.1) c.requires.place

pub call_pred-requires-clause-sized : goal.call_pred-requires-clause-sized
call_pred-requires-clause-sized g c =
    sized-listed c.args.rows.now c.loop-row.row-index c.row-item.result (val_of c.value-value.result.now) c.loop-row-test.true c.row-item.is c.value-value.ensures c.requires.width c.recall_ints.ensures

pub returns-clause-ok : goal.returns-clause-ok
returns-clause-ok g c =
    filter-listed (passes (pred_ops_at (library_of c.args.lib.now) c.args.p)) c.args.rows.now c.loop-row.out.items (c.loop-row.invariant.0 ∙ ap (filter_set (passes (pred_ops_at (library_of c.args.lib.now) c.args.p))) (take_all c.loop-row.row-index c.args.rows.now (omega (arith, c.loop-row-test.false))))

pub loop-row-preserved-then-not-call_pred : goal.loop-row-preserved-then-not-call_pred
loop-row-preserved-then-not-call_pred g c = (
  kept-as_before (passes (pred_ops_at (library_of c.args.lib.now) c.args.p)) c.args.rows.now c.loop-row.row-index c.row-item.result (val_of c.value-value.result.now) c.loop-row.out.items c.loop-row-test.true c.row-item.is c.value-value.ensures
      (ap (λ l. passes (pred_ops_at l c.args.p) (val_of c.value-value.result.now)) (sym c.loop-row.invariant.1) ∙ sym c.call_pred.ensures.answer ∙ c.if-not-call_pred.true) c.loop-row.invariant.0,
  c.call_pred.ensures.library ∙ c.loop-row.invariant.1,
  omega (arith, c.call_pred.ensures.ticks, c.loop-row.invariant.2),
)

pub loop-row-preserved : goal.loop-row-preserved
loop-row-preserved g c = (
  kept-more (passes (pred_ops_at (library_of c.args.lib.now) c.args.p)) c.args.rows.now c.loop-row.row-index c.row-item.result c.in_ok-kept.kept (val_of c.value-value.result.now) c.loop-row.out.items c.push.new.self.items c.loop-row-test.true c.row-item.is c.value-value.ensures
      (ap (λ l. passes (pred_ops_at l c.args.p) (val_of c.value-value.result.now)) (sym c.loop-row.invariant.1) ∙ sym c.call_pred.ensures.answer ∙ c.if-not-call_pred.false) c.in_ok-kept.ensures c.loop-row.invariant.0 c.in_ok-push.ensures.items,
  c.call_pred.ensures.library ∙ c.loop-row.invariant.1,
  omega (arith, c.call_pred.ensures.ticks, c.loop-row.invariant.2),
)
