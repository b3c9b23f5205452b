use Rattle.std.proofs.Common.{◌≡◌, ◌++◌, length}
use Rattle.lasp_logset.proofs.shows.sorted_changes.Given as goal

abbrev pub invariant-loop-entry : goal.invariant-loop-entry
invariant-loop-entry l = l.sorted.items ++ l.left ≡ l.log.items

abbrev pub decreases-loop-entry : goal.decreases-loop-entry
decreases-loop-entry l = length l.left
