use Rattle.std.proofs.Common.{◌≡◌, ◌++◌, length}
use Rattle.model_sets.specs.Equations.{changed}
use Rattle.lasp_logset.proofs.deltas.changed.Given as goal

abbrev pub invariant-loop-row : goal.invariant-loop-row
invariant-loop-row l = l.log.items ++ changed l.known l.rows ≡ changed l.known l.initial.rows

abbrev pub decreases-loop-row : goal.decreases-loop-row
decreases-loop-row l = length l.rows
