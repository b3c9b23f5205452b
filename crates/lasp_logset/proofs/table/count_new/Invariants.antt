use Rattle.std.proofs.Common.{◌≡◌, ◌+◌, ◌≤◌, length}
use Rattle.model_sets.specs.Loops.{new_rows}
use Rattle.lasp_logset.proofs.table.count_new.Given as goal

abbrev pub invariant-loop-name : goal.invariant-loop-name
invariant-loop-name l = record {
  counted : l.count + new_rows l.rows.entries l.left ≡ new_rows l.rows.entries l.other.entries;
  few : l.count + length l.left ≤ length l.other.entries;
}

abbrev pub decreases-loop-name : goal.decreases-loop-name
decreases-loop-name l = length l.left
