use Rattle.std.proofs.Common.{◌≡◌, ◌++◌, length}
use Rattle.lasp_logset.proofs.table.arriving.Given as goal

abbrev pub invariant-loop-entry : goal.invariant-loop-entry
invariant-loop-entry l = l.coming.items ++ l.left ≡ l.initial.left

abbrev pub decreases-loop-entry : goal.decreases-loop-entry
decreases-loop-entry l = length l.left
