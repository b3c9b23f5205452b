use Rattle.std.proofs.Common.{◌≡◌, true, IsTrue, rules, sym, ap, subst, ◌∙◌, arith, None, Some, List, map, length}
use Rattle.std.proofs.lemmas.List.{length-map}
use mir.Syntax.{w128}
use mir.Val.{to_z}
use Rattle.std.specs.Option.{option_map}
use Rattle.model_values.specs.Row.{Row}
use Rattle.model_sets.specs.Values.{visible}
use Rattle.model_sets.specs.Folds.{fold_of}
use Rattle.model_sets.specs.Loops.{values_after}
use Rattle.model_sets.proofs.LoopLaws.{values_after-visible}
use Rattle.lasp_value.specs.Value.{val_of}
use Rattle.lasp_fns.specs.Stored.{lift_of}
use Rattle.lasp_setops.specs.Fold.{AreSized, taken_lift}
use Rattle.lasp_setops.specs.Turns.{turned, arrived}
use Rattle.lasp_setops.proofs.StepLaws.{along-start, along-next, step-is}
use Rattle.lasp_setops.proofs.PassLaws.{sized-first, sized-rest, shown-skip, shown-next, arrived-fold, along-skip}
use Rattle.lasp_setops.proofs.TurnLaws.{length-visible}
use Rattle.lasp_setops.proofs.FoldLaws.{sized-limits}
use Rattle.lasp_setops.proofs.fold.whole.fold_all.Goals as goal

pub loop-row-init : goal.loop-row-init
loop-row-init g c =
    let laws = g.met.G.FoldGroup.laws c.args.g.now c.known.ensures in
    let sized = sized-limits c.args.x.now c.requires c.recall_ints.ensures in
    let unit : c.neutral-total.result ≡ g.G.FoldGroup.unit c.args.g.now = search rules in
    let same : map arrived (values_after None c.in_ok-rows.rows) ≡ map arrived (visible c.args.x.now) = ap (λ (u : List Row). map arrived (values_after None u)) c.in_ok-rows.ensures ∙ ap (map arrived) (values_after-visible c.args.x.now c.ascends.ensures) in
    let along = along-start (g.G.FoldGroup.is_member c.args.g.now) (g.G.FoldGroup.size c.args.g.now) (turned (g.G.FoldGroup.combined c.args.g.now) (g.G.FoldGroup.undone c.args.g.now) (taken_lift (g.G.FoldGroup.taken c.args.g.now) (lift_of c.args.lift.now)))
    c.neutral-total.result _ (map arrived (values_after None c.in_ok-rows.rows)) (map arrived (visible c.args.x.now)) (length c.args.x.now) same
    (arrived-fold (g.G.FoldGroup.combined c.args.g.now) (g.G.FoldGroup.undone c.args.g.now) (taken_lift (g.G.FoldGroup.taken c.args.g.now) (lift_of c.args.lift.now)) c.neutral-total.result (visible c.args.x.now)
    ∙ ap (λ n. fold_of (g.G.FoldGroup.combined c.args.g.now) n (taken_lift (g.G.FoldGroup.taken c.args.g.now) (lift_of c.args.lift.now)) (visible c.args.x.now)) unit)
    (omega (arith, length-map (visible c.args.x.now) arrived, length-visible c.args.x.now)) (subst (λ n. IsTrue (g.G.FoldGroup.is_member c.args.g.now n)) (sym unit) laws.group.neutral_in)
    (omega (arith, ap (g.G.FoldGroup.size c.args.g.now) unit, laws.size_unit, c.requires.rows)) in
    (subst AreSized (sym c.in_ok-rows.ensures) sized, search rules)

pub loop-row-preserved-then-is_passed : goal.loop-row-preserved-then-is_passed
loop-row-preserved-then-is_passed g c = (
  sized-rest c.loop-row.rows c.next.new.self c.in-Some.row c.in-Some.ensures.some c.loop-row.invariant.0,
  along-skip (g.G.FoldGroup.is_member c.args.g.now) (g.G.FoldGroup.size c.args.g.now) (turned (g.G.FoldGroup.combined c.args.g.now) (g.G.FoldGroup.undone c.args.g.now) (taken_lift (g.G.FoldGroup.taken c.args.g.now) (lift_of c.args.lift.now)))
      _ _ _ _ c.loop-row.invariant.1 (shown-skip (option_map (λ v. val_of v.now) c.loop-row.last) c.loop-row.rows c.next.new.self c.in-Some.row c.is_passed.result c.in-Some.ensures.some c.is_passed.ensures c.if-is_passed.true),
)

pub call-n-requires : goal.call-n-requires
call-n-requires g c = sized-first c.loop-row.rows c.next.new.self c.in-Some.row (val_of c.value-value.result.now) c.in-Some.ensures.some c.value-value.ensures c.loop-row.invariant.0

pub loop-row-preserved : goal.loop-row-preserved
loop-row-preserved g c =
    let number : c.turned-total.result ≡ g.G.FoldGroup.combined c.args.g.now (to_z w128 c.loop-row.total-bits) (g.G.FoldGroup.taken c.args.g.now c.call-n.result) = search rules in
    let step = step-is (g.G.FoldGroup.combined c.args.g.now) (g.G.FoldGroup.undone c.args.g.now) (g.G.FoldGroup.taken c.args.g.now) (lift_of c.args.lift.now) (to_z w128 c.loop-row.total-bits) c.call-n.result c.turned-total.result (val_of c.value-value.result.now) true c.call-n.ensures number in
    let along = along-next (g.G.FoldGroup.is_member c.args.g.now) (g.G.FoldGroup.size c.args.g.now) (turned (g.G.FoldGroup.combined c.args.g.now) (g.G.FoldGroup.undone c.args.g.now) (taken_lift (g.G.FoldGroup.taken c.args.g.now) (lift_of c.args.lift.now)))
    (to_z w128 c.loop-row.total-bits) c.turned-total.result _
    (map arrived (values_after (option_map (λ v. val_of v.now) c.loop-row.last) c.loop-row.rows)) (map arrived (values_after (Some (val_of c.value-value.result.now)) c.next.new.self))
    (val_of c.value-value.result.now, true) c.loop-row.invariant.1 (shown-next (option_map (λ v. val_of v.now) c.loop-row.last) c.loop-row.rows c.next.new.self c.in-Some.row (val_of c.value-value.result.now) c.is_passed.result c.in-Some.ensures.some c.value-value.ensures c.is_passed.ensures c.if-is_passed.false)
    step c.turned-total.ensures.in_group c.turned-total.ensures.small in
    (sized-rest c.loop-row.rows c.next.new.self c.in-Some.row c.in-Some.ensures.some c.loop-row.invariant.0, search rules)
