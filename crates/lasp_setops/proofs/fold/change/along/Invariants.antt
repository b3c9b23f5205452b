use Rattle.std.proofs.Common.{fold, length}
use Rattle.std.specs.Option.{option_map}
use Rattle.model_sets.specs.Values.{visible, row_values}
use Rattle.lasp_value.specs.Value.{val_of}
use Rattle.lasp_fns.specs.Stored.{lift_of}
use Rattle.lasp_setops.specs.Fold.{AreSized, taken_lift}
use Rattle.lasp_setops.specs.Turns.{turned, turns, values_left, IsAlong}
use Rattle.lasp_setops.proofs.fold.change.along.Given as goal

abbrev pub invariant-loop-turn : goal.invariant-loop-turn
invariant-loop-turn g l =
    AreSized l.pass.rows
    × IsAlong (g.G.FoldGroup.is_member l.g) (g.G.FoldGroup.size l.g) (turned (g.G.FoldGroup.combined l.g) (g.G.FoldGroup.undone l.g) (taken_lift (g.G.FoldGroup.taken l.g) (lift_of l.lift))) l.total
    (turns (visible l.before) (visible l.after) (values_left (option_map (λ v. val_of v.now) l.pass.last) l.pass.rows))
    (fold (turned (g.G.FoldGroup.combined l.g) (g.G.FoldGroup.undone l.g) (taken_lift (g.G.FoldGroup.taken l.g) (lift_of l.lift))) l.old (turns (visible l.before) (visible l.after) (row_values l.among)))

abbrev pub decreases-loop-turn : goal.decreases-loop-turn
decreases-loop-turn g l = length (turns (visible l.before) (visible l.after) (values_left (option_map (λ v. val_of v.now) l.pass.last) l.pass.rows))
