use Rattle.std.proofs.Common.{rules, ◌≡◌, ◌∙◌, sym, ap, unwrap_or, Option}
use Rattle.model_functions.specs.Lift.{LiftOp, One}
use Rattle.model_sets.specs.Folds.{fold_set}
use Rattle.lasp_fns.specs.Library.{lift_op_at}
use Rattle.lasp_fns.specs.Steps.{library_of}
use Rattle.lasp_fns.specs.Stored.{lift_of}
use Rattle.lasp_setops.specs.Fold.{taken_lift}
use Rattle.lasp_setops.proofs.FoldLaws.{change-grown}
use Rattle.tests_processes.proofs.fold.number_after.Goals as goal

pub fold_change-requires-clause-more : goal.fold_change-requires-clause-more
fold_change-requires-clause-more g c = change-grown c.args.before.now c.args.change.now c.args.after.now c.requires.change

pub fold_counted-requires-clause-more : goal.fold_counted-requires-clause-more
fold_counted-requires-clause-more g c = change-grown c.args.before.now c.args.change.now c.args.after.now c.requires.change

pub fold_counted-requires-clause-old : goal.fold_counted-requires-clause-old
fold_counted-requires-clause-old g c =
    let same : lift_op_at (library_of c.args.lib.now) 0 ≡ lift_of c.lift_at.result.now = ap (λ l. lift_op_at l 0) c.requires.same ∙ ap (λ (o : Option LiftOp). unwrap_or o One) c.lift_at.ensures in
    let number : c.in_ok-old.old ≡ fold_set (g.G.FoldGroup.combined c.args.g.now) (g.G.FoldGroup.unit c.args.g.now) (taken_lift (g.G.FoldGroup.taken c.args.g.now) (lift_op_at (library_of c.args.lib.now) 0)) c.args.before.now =
    c.in_ok-old.ensures ∙ ap (λ op. fold_set (g.G.FoldGroup.combined c.args.g.now) (g.G.FoldGroup.unit c.args.g.now) (taken_lift (g.G.FoldGroup.taken c.args.g.now) op) c.args.before.now) (sym same) in
    search rules

pub fold_increment-requires-clause-old : goal.fold_increment-requires-clause-old
fold_increment-requires-clause-old g c =
    let same : lift_op_at (library_of c.args.lib.now) 0 ≡ lift_of c.lift_at.result.now = ap (λ l. lift_op_at l 0) c.requires.same ∙ ap (λ (o : Option LiftOp). unwrap_or o One) c.lift_at.ensures in
    let number : c.in_ok-old.old ≡ fold_set (g.G.FoldGroup.combined c.args.g.now) (g.G.FoldGroup.unit c.args.g.now) (taken_lift (g.G.FoldGroup.taken c.args.g.now) (lift_op_at (library_of c.fold_counted.new.lib) 0)) c.args.before.now =
    c.in_ok-old.ensures ∙ ap (λ op. fold_set (g.G.FoldGroup.combined c.args.g.now) (g.G.FoldGroup.unit c.args.g.now) (taken_lift (g.G.FoldGroup.taken c.args.g.now) op) c.args.before.now) (sym same) ∙ ap (λ l. fold_set (g.G.FoldGroup.combined c.args.g.now) (g.G.FoldGroup.unit c.args.g.now) (taken_lift (g.G.FoldGroup.taken c.args.g.now) (lift_op_at l 0)) c.args.before.now) (sym c.fold_counted.ensures.library) in
    search rules
