use Rattle.std.proofs.Common.{◌≡◌, length}
use Rattle.lasp_logset.specs.Whole.{standing}
use Rattle.lasp_logset.proofs.standing.next_standing.Given as goal

abbrev pub invariant-loop-entry : goal.invariant-loop-entry
invariant-loop-entry l = standing l.known l.left ≡ standing l.known l.initial.left

abbrev pub decreases-loop-entry : goal.decreases-loop-entry
decreases-loop-entry l = length l.left
