use Rattle.std.proofs.Common.{length}
use Rattle.tests_values.proofs.sets.count_near.Given as goal

abbrev pub decreases-loop-row : goal.decreases-loop-row
decreases-loop-row l = length l.rows
