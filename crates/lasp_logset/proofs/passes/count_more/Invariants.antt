use Rattle.std.proofs.Common.{◌≡◌, ◌+◌, ◌≤◌, ◌++◌, length}
use Rattle.model_sets.specs.Rows.{of_rows}
use Rattle.lasp_logset.proofs.passes.count_more.Given as goal

abbrev pub invariant-loop-entry : goal.invariant-loop-entry
invariant-loop-entry l = record {
  counted : l.count + length (of_rows (l.left ++ l.log.items)) ≡ length (of_rows (l.other.items ++ l.log.items));
  few : l.count + length l.left ≤ length l.other.items;
}

abbrev pub decreases-loop-entry : goal.decreases-loop-entry
decreases-loop-entry l = length l.left
