use Rattle.std.proofs.Common.{◌∙◌, sym}
use Rattle.model_functions.specs.Predicate.{passes}
use Rattle.model_sets.specs.Equations.{filter_set}
use Rattle.lasp_value.specs.Value.{val_of}
use Rattle.lasp_fns.specs.Stored.{conditions_of}
use Rattle.lasp_setops.proofs.JoinLaws.{first-kept, next-kept, next-left, last-kept}
use Rattle.lasp_setops.proofs.WidthLaws.{sized-row, width-entries, width-rest}
use Rattle.lasp_setops.proofs.filter.filter_set.Goals as goal

pub loop-row-init : goal.loop-row-init
loop-row-init g c =
    (first-kept (passes (conditions_of c.args.p.now)) c.empty-out.result c.in_ok-rows.rows c.args.x.now c.empty-out.ensures c.in_ok-rows.ensures.rows c.ascends.ensures, width-entries 16 c.in_ok-rows.rows c.args.x.now c.in_ok-rows.ensures.rows c.requires.width)

pub call-requires : goal.call-requires
call-requires g c =
    sized-row c.loop-row.rows c.next.new.self c.in-Some.row (val_of c.value-value.result.now) c.in-Some.ensures.some c.value-value.ensures c.loop-row.invariant.1 c.recall_ints.ensures

pub loop-row-preserved-in-Continue-branch-3 : goal.loop-row-preserved-in-Continue-branch-3
loop-row-preserved-in-Continue-branch-3 g c = (
  next-kept (passes (conditions_of c.args.p.now)) c.loop-row.out c.add.new.self c.loop-row.rows c.next.new.self (filter_set (passes (conditions_of c.args.p.now)) c.args.x.now) c.in-Some.row c.in_ok-kept.kept (val_of c.value-value.result.now) c.in-Some.ensures.some c.value-value.ensures
      (sym c.call.ensures ∙ c.if-call.true) c.in_ok-kept.ensures c.in_ok-add.ensures.ok c.loop-row.invariant.0,
  width-rest 16 c.loop-row.rows c.next.new.self c.in-Some.row c.in-Some.ensures.some c.loop-row.invariant.1,
)

pub loop-row-preserved : goal.loop-row-preserved
loop-row-preserved g c = (
  next-left (passes (conditions_of c.args.p.now)) c.loop-row.out c.loop-row.rows c.next.new.self (filter_set (passes (conditions_of c.args.p.now)) c.args.x.now) c.in-Some.row (val_of c.value-value.result.now) c.in-Some.ensures.some c.value-value.ensures (sym c.call.ensures ∙ c.if-call.false) c.loop-row.invariant.0,
  width-rest 16 c.loop-row.rows c.next.new.self c.in-Some.row c.in-Some.ensures.some c.loop-row.invariant.1,
)

pub returns : goal.returns
returns g c = last-kept (passes (conditions_of c.args.p.now)) c.loop-row.out c.loop-row.rows (filter_set (passes (conditions_of c.args.p.now)) c.args.x.now) c.in_default.ensures.none c.loop-row.invariant.0
