use Rattle.std.proofs.Common.{length}
use Rattle.lasp_logset.proofs.BehindLaws.{AreAbreast}
use Rattle.lasp_logset.proofs.behind.rest_behind.Given as goal

abbrev pub invariant-loop-entry : goal.invariant-loop-entry
invariant-loop-entry l = AreAbreast l.log.items l.other.items l.left l.rest

abbrev pub decreases-loop-entry : goal.decreases-loop-entry
decreases-loop-entry l = length l.left
