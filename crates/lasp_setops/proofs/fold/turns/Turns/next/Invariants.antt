use Rattle.std.proofs.Common.{◌≡◌, length}
use Rattle.std.specs.Option.{option_map}
use Rattle.model_sets.specs.Values.{visible}
use Rattle.lasp_value.specs.Value.{val_of}
use Rattle.lasp_setops.specs.Fold.{AreSized}
use Rattle.lasp_setops.specs.Turns.{values_left, turns}
use Rattle.lasp_setops.proofs.fold.turns.Turns.next.Given as goal

abbrev pub invariant-loop-row : goal.invariant-loop-row
invariant-loop-row l = (turns (visible l.before) (visible l.after) (values_left (option_map (λ v. val_of v.now) l.fn.self.last) l.fn.self.rows) ≡ turns (visible l.before) (visible l.after) (values_left (option_map (λ v. val_of v.now) l.self.last) l.self.rows)) × AreSized l.self.rows

abbrev pub decreases-loop-row : goal.decreases-loop-row
decreases-loop-row l = length l.self.rows
