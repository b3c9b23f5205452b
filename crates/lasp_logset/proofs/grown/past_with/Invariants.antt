use Rattle.std.proofs.Common.{length}
use Rattle.lasp_logset.specs.Grown.{IsAlong}
use Rattle.lasp_logset.proofs.grown.past_with.Given as goal

abbrev pub invariant-loop-row : goal.invariant-loop-row
invariant-loop-row l = IsAlong l.set l.initial.left l.past l.left

abbrev pub decreases-loop-row : goal.decreases-loop-row
decreases-loop-row l = length l.left
