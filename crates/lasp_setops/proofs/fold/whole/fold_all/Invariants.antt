use Rattle.std.proofs.Common.{map, length}
use Rattle.std.specs.Option.{option_map}
use Rattle.model_sets.specs.Folds.{fold_set}
use Rattle.model_sets.specs.Loops.{values_after}
use Rattle.lasp_value.specs.Value.{val_of}
use Rattle.lasp_fns.specs.Stored.{lift_of}
use Rattle.lasp_setops.specs.Fold.{AreSized, taken_lift}
use Rattle.lasp_setops.specs.Turns.{turned, arrived, IsAlong}
use Rattle.lasp_setops.proofs.fold.whole.fold_all.Given as goal

abbrev pub invariant-loop-row : goal.invariant-loop-row
invariant-loop-row g l =
    AreSized l.rows
    × IsAlong (g.G.FoldGroup.is_member l.g) (g.G.FoldGroup.size l.g) (turned (g.G.FoldGroup.combined l.g) (g.G.FoldGroup.undone l.g) (taken_lift (g.G.FoldGroup.taken l.g) (lift_of l.lift))) l.total
    (map arrived (values_after (option_map (λ v. val_of v.now) l.last) l.rows))
    (fold_set (g.G.FoldGroup.combined l.g) (g.G.FoldGroup.unit l.g) (taken_lift (g.G.FoldGroup.taken l.g) (lift_of l.lift)) l.x)

abbrev pub decreases-loop-row : goal.decreases-loop-row
decreases-loop-row g l = length l.rows
