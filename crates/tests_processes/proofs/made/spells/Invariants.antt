use Rattle.std.proofs.Common.{length}
use Rattle.tests_processes.proofs.made.spells.Given as goal

abbrev pub decreases-loop-row : goal.decreases-loop-row
decreases-loop-row l = length l.rows
