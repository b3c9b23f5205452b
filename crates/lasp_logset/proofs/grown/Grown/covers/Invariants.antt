use Rattle.std.proofs.Common.{◌≡◌, length}
use Rattle.model_sets.specs.Equations.{changed}
use Rattle.lasp_logset.proofs.grown.Grown.covers.Given as goal

abbrev pub invariant-loop-entry : goal.invariant-loop-entry
invariant-loop-entry l = changed l.self l.left ≡ changed l.self l.log.items

abbrev pub decreases-loop-entry : goal.decreases-loop-entry
decreases-loop-entry l = length l.left
