use Rattle.std.proofs.Common.{◌≡◌, length}
use Rattle.std.specs.List.{list_any}
use Rattle.model_sets.specs.Reads.{is_row_of}
use Rattle.lasp_value.specs.Value.{val_of}
use Rattle.lasp_logset.proofs.passes.has_row_in.Given as goal

abbrev pub invariant-loop-entry : goal.invariant-loop-entry
invariant-loop-entry l = list_any (is_row_of (val_of l.value) l.dead) l.left ≡ list_any (is_row_of (val_of l.value) l.dead) l.initial.left

abbrev pub decreases-loop-entry : goal.decreases-loop-entry
decreases-loop-entry l = length l.left
