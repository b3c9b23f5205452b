use Rattle.std.proofs.Common.{◌≡◌, ◌++◌, length}
use Rattle.model_sets.specs.Rows.{remove_delta}
use Rattle.lasp_value.specs.Value.{val_of}
use Rattle.lasp_logset.proofs.orset.OrSet.remove_delta.Given as goal

abbrev pub invariant-loop-row : goal.invariant-loop-row
invariant-loop-row l = l.log.items ++ remove_delta (val_of l.value) l.rows ≡ remove_delta (val_of l.value) l.initial.rows

abbrev pub decreases-loop-row : goal.decreases-loop-row
decreases-loop-row l = length l.rows
