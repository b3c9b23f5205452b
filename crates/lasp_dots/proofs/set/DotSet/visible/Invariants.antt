use Rattle.std.proofs.Common.{◌≡◌, ◌++◌, length}
use Rattle.std.specs.Option.{option_map}
use Rattle.model_sets.specs.Values.{visible}
use Rattle.model_sets.specs.Loops.{values_after}
use Rattle.lasp_value.specs.Value.{val_of}
use Rattle.lasp_dots.proofs.set.DotSet.visible.Given as goal

abbrev pub invariant-loop-dot : goal.invariant-loop-dot
invariant-loop-dot l = l.values ++ values_after (option_map (λ v. val_of v.now) l.last) l.left ≡ visible l.self.rows

abbrev pub decreases-loop-dot : goal.decreases-loop-dot
decreases-loop-dot l = length l.left
