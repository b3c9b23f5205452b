use Rattle.std.proofs.Common.{length}
use Rattle.lasp_logset.specs.Kept.{IsTable}
use Rattle.lasp_logset.proofs.table.table_of.Given as goal

abbrev pub invariant-loop-entry : goal.invariant-loop-entry
invariant-loop-entry l = IsTable l.rows.entries l.left l.log.items

abbrev pub decreases-loop-entry : goal.decreases-loop-entry
decreases-loop-entry l = length l.left
