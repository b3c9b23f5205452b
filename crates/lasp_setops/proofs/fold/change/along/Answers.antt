use Rattle.std.proofs.Common.{◌≡◌, if◌then◌else◌, rules, sym, ap, subst, ◌∙◌, length, fold}
use mir.Syntax.{w128}
use mir.Val.{to_z}
use Rattle.std.specs.Option.{option_map}
use Rattle.model_sets.specs.Values.{visible, row_values}
use Rattle.lasp_value.specs.Value.{val_of}
use Rattle.lasp_fns.specs.Stored.{lift_of}
use Rattle.lasp_setops.specs.Fold.{AreSized, taken_lift}
use Rattle.lasp_setops.specs.Turns.{turned, turns, values_left}
use Rattle.lasp_setops.proofs.StepLaws.{along-start, along-next, step-is}
use Rattle.lasp_setops.proofs.TurnLaws.{left-all}
use Rattle.lasp_setops.proofs.FoldLaws.{count-change}
use Rattle.lasp_setops.proofs.fold.change.along.Goals as goal

pub loop-turn-init : goal.loop-turn-init
loop-turn-init g c =
    let all = turns (visible c.args.before.now) (visible c.args.after.now) (row_values c.args.among.now) in
    let same : turns (visible c.args.before.now) (visible c.args.after.now) (values_left (option_map (λ v. val_of v.now) c.in_ok-pass.pass.last) c.in_ok-pass.pass.rows) ≡ turns (visible c.args.before.now) (visible c.args.after.now) (row_values c.args.among.now) =
    (λ i. turns (visible c.args.before.now) (visible c.args.after.now) (values_left (option_map (λ v. val_of v.now) (c.in_ok-pass.ensures.first i)) (c.in_ok-pass.ensures.rows i)))
    ∙ ap (turns (visible c.args.before.now) (visible c.args.after.now)) (left-all c.args.among.now c.ascends.ensures) in
    let along = along-start (g.G.FoldGroup.is_member c.args.g.now) (g.G.FoldGroup.size c.args.g.now) (turned (g.G.FoldGroup.combined c.args.g.now) (g.G.FoldGroup.undone c.args.g.now) (taken_lift (g.G.FoldGroup.taken c.args.g.now) (lift_of c.args.lift.now)))
    c.args.old _ (turns (visible c.args.before.now) (visible c.args.after.now) (values_left (option_map (λ v. val_of v.now) c.in_ok-pass.pass.last) c.in_ok-pass.pass.rows)) all (length c.args.among.now) same (λ i. fold (turned (g.G.FoldGroup.combined c.args.g.now) (g.G.FoldGroup.undone c.args.g.now) (taken_lift (g.G.FoldGroup.taken c.args.g.now) (lift_of c.args.lift.now))) c.args.old all)
    (count-change c.args.before.now c.args.after.now c.args.among.now) c.requires.in_group c.requires.small in
    (subst AreSized (sym c.in_ok-pass.ensures.rows) c.requires.sized, search rules)

pub loop-turn-preserved : goal.loop-turn-preserved
loop-turn-preserved g c =
    let number : c.turned-total.result ≡ (if c.in-Some.turn.came then g.G.FoldGroup.combined c.args.g.now (to_z w128 c.loop-turn.total-bits) (g.G.FoldGroup.taken c.args.g.now c.call-n.result) else g.G.FoldGroup.combined c.args.g.now (to_z w128 c.loop-turn.total-bits) (g.G.FoldGroup.undone c.args.g.now (g.G.FoldGroup.taken c.args.g.now c.call-n.result))) = search rules in
    let step = step-is (g.G.FoldGroup.combined c.args.g.now) (g.G.FoldGroup.undone c.args.g.now) (g.G.FoldGroup.taken c.args.g.now) (lift_of c.args.lift.now) (to_z w128 c.loop-turn.total-bits) c.call-n.result c.turned-total.result (val_of c.in-Some.turn.value.now) c.in-Some.turn.came c.call-n.ensures number in
    let along = along-next (g.G.FoldGroup.is_member c.args.g.now) (g.G.FoldGroup.size c.args.g.now) (turned (g.G.FoldGroup.combined c.args.g.now) (g.G.FoldGroup.undone c.args.g.now) (taken_lift (g.G.FoldGroup.taken c.args.g.now) (lift_of c.args.lift.now)))
    (to_z w128 c.loop-turn.total-bits) c.turned-total.result _
    (turns (visible c.args.before.now) (visible c.args.after.now) (values_left (option_map (λ v. val_of v.now) c.loop-turn.pass.last) c.loop-turn.pass.rows)) (turns (visible c.args.before.now) (visible c.args.after.now) (values_left (option_map (λ v. val_of v.now) c.next.new.self.last) c.next.new.self.rows))
    (val_of c.in-Some.turn.value.now, c.in-Some.turn.came) c.loop-turn.invariant.1 c.in-Some.ensures.some step c.turned-total.ensures.in_group c.turned-total.ensures.small in
    (c.in-Some.ensures.rest, search rules)
