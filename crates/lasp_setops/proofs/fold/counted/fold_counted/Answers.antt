use Rattle.std.proofs.Common.{rules, ◌≡◌, ◌∙◌, ◌≤◌, fold, arith, ap, length}
use Rattle.std.proofs.lemmas.Result.{IfOk-weaker}
use Rattle.model_sets.specs.Values.{visible, row_values}
use Rattle.model_states.specs.Content.{row_limit}
use Rattle.lasp_fns.specs.Library.{lift_op_at}
use Rattle.lasp_fns.specs.Steps.{library_of}
use Rattle.lasp_setops.specs.Fold.{taken_lift}
use Rattle.lasp_setops.specs.Turns.{turned, turns}
use Rattle.lasp_setops.proofs.FoldLaws.{sized-limits, sized-below, rows-below, old-in, old-small, follow-all, count-all}
use Rattle.lasp_setops.proofs.fold.counted.fold_counted.Goals as goal

pub along-requires-clause-sized : goal.along-requires-clause-sized
along-requires-clause-sized g c = sized-limits c.args.after.now c.requires.limits c.recall_ints.ensures

pub along-requires-clause-in_group : goal.along-requires-clause-in_group
along-requires-clause-in_group g c =
    let member = old-in (g.met.G.FoldGroup.laws c.args.g.now c.known.ensures) (lift_op_at (library_of c.args.lib.now) c.args.lift) c.args.before.now c.args.old c.requires.old c.ascends.ensures
    (sized-below c.args.before.now c.args.after.now c.requires.more (sized-limits c.args.after.now c.requires.limits c.recall_ints.ensures)) in
    search rules

pub along-requires-clause-small : goal.along-requires-clause-small
along-requires-clause-small g c =
    let few : length c.args.before.now ≤ row_limit = omega (arith, rows-below c.args.before.now c.args.after.now c.ascends.ensures c.ascends-2.ensures c.requires.more, c.requires.limits.rows) in
    let room = old-small (g.met.G.FoldGroup.laws c.args.g.now c.known.ensures) (lift_op_at (library_of c.args.lib.now) c.args.lift) c.args.before.now c.args.after.now c.args.old c.requires.old c.ascends.ensures
    (sized-below c.args.before.now c.args.after.now c.requires.more (sized-limits c.args.after.now c.requires.limits c.recall_ints.ensures)) few c.requires.limits.rows in
    search rules

pub returns-clause-exact : goal.returns-clause-exact
returns-clause-exact g c =
    let same : turns (visible c.in_ok-earlier.earlier) (visible c.in_ok-later.later) (row_values c.args.after.now) ≡ turns (visible c.args.before.now) (visible c.args.after.now) (row_values c.args.after.now) = λ i. turns (visible (c.in_ok-earlier.ensures i)) (visible (c.in_ok-later.ensures i)) (row_values c.args.after.now) in
    let number = follow-all (g.met.G.FoldGroup.laws c.args.g.now c.known.ensures) (lift_op_at (library_of c.args.lib.now) c.args.lift) c.args.before.now c.args.after.now c.args.old c.ascends.ensures c.ascends-2.ensures
    (sized-limits c.args.after.now c.requires.limits c.recall_ints.ensures) c.requires.more c.requires.old in
    IfOk-weaker c.along.result (λ n. n ≡ fold (turned (g.G.FoldGroup.combined c.args.g.now) (g.G.FoldGroup.undone c.args.g.now) (taken_lift (g.G.FoldGroup.taken c.args.g.now) (lift_op_at (library_of c.args.lib.now) c.args.lift))) c.args.old (turns (visible c.in_ok-earlier.earlier) (visible c.in_ok-later.later) (row_values c.args.after.now))) _
    (λ n is. is ∙ ap (fold (turned (g.G.FoldGroup.combined c.args.g.now) (g.G.FoldGroup.undone c.args.g.now) (taken_lift (g.G.FoldGroup.taken c.args.g.now) (lift_op_at (library_of c.args.lib.now) c.args.lift))) c.args.old) same ∙ number)
    (search rules)

pub returns-clause-ticks : goal.returns-clause-ticks
returns-clause-ticks g c =
    let same : turns (visible c.in_ok-earlier.earlier) (visible c.in_ok-later.later) (row_values c.args.after.now) ≡ turns (visible c.args.before.now) (visible c.args.after.now) (row_values c.args.after.now) = λ i. turns (visible (c.in_ok-earlier.ensures i)) (visible (c.in_ok-later.ensures i)) (row_values c.args.after.now) in
    omega (arith, ap length same, c.along.ensures.ticks, count-all c.args.before.now c.args.after.now c.ascends.ensures c.ascends-2.ensures c.requires.more)
