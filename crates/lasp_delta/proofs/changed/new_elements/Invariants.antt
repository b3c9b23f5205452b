use Rattle.std.proofs.Common.{◌≡◌, ◌++◌, length, map}
use Rattle.model_deltas.specs.Delta.{new_values}
use Rattle.lasp_value.specs.Value.{val_of}
use Rattle.lasp_delta.proofs.changed.new_elements.Given as goal

abbrev pub invariant-loop-value : goal.invariant-loop-value
invariant-loop-value l = map val_of l.values.items ++ new_values l.before l.all ≡ new_values l.before l.after

abbrev pub decreases-loop-value : goal.decreases-loop-value
decreases-loop-value l = length l.all
