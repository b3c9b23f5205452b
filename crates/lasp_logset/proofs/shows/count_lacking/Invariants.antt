use Rattle.std.proofs.Common.{◌≡◌, ◌+◌, ◌≤◌, length}
use Rattle.model_sets.specs.Loops.{new_rows}
use Rattle.lasp_logset.proofs.shows.count_lacking.Given as goal

abbrev pub invariant-loop-row : goal.invariant-loop-row
invariant-loop-row l = record {
  counted : l.count + new_rows l.set l.left ≡ new_rows l.set l.initial.left;
  few : l.count + length l.left ≤ length l.initial.left;
}

abbrev pub decreases-loop-row : goal.decreases-loop-row
decreases-loop-row l = length l.left
