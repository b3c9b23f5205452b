use Rattle.std.proofs.Common.{◌≡◌, length}
use Rattle.model_sets.specs.Rows.{of_rows, join, remove_delta}
use Rattle.lasp_value.specs.Value.{val_of}
use Rattle.lasp_logset.proofs.of_grown.bury_behind.Given as goal

abbrev pub invariant-loop-entry : goal.invariant-loop-entry
invariant-loop-entry l = join (of_rows l.delta) (remove_delta (val_of l.value) l.left) ≡ join (of_rows l.fn.delta) (remove_delta (val_of l.value) l.initial.left)

abbrev pub decreases-loop-entry : goal.decreases-loop-entry
decreases-loop-entry l = length l.left
