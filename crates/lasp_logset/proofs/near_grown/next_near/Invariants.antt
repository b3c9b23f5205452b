use Rattle.std.proofs.Common.{◌≡◌, length}
use Rattle.lasp_logset.specs.Whole.{standing}
use Rattle.lasp_logset.proofs.near_grown.next_near.Given as goal

abbrev pub invariant-loop-row : goal.invariant-loop-row
invariant-loop-row l = standing l.known l.near ≡ standing l.known l.initial.near

abbrev pub decreases-loop-row : goal.decreases-loop-row
decreases-loop-row l = length l.near
