use Rattle.std.proofs.Common.{◌≡◌, length}
use Rattle.model_sets.specs.Equations.{changed}
use Rattle.lasp_logset.proofs.passes.brings_nothing_to.Given as goal

abbrev pub invariant-loop-entry : goal.invariant-loop-entry
invariant-loop-entry l = changed l.log.items l.left ≡ changed l.log.items l.other.items

abbrev pub decreases-loop-entry : goal.decreases-loop-entry
decreases-loop-entry l = length l.left
