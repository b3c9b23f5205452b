use Rattle.std.proofs.Common.{◌≡◌, ◌++◌, length}
use Rattle.lasp_logset.proofs.row_list.RowList.of_set.Given as goal

abbrev pub invariant-loop-row : goal.invariant-loop-row
invariant-loop-row l = l.list.items ++ l.rows ≡ l.initial.rows

abbrev pub decreases-loop-row : goal.decreases-loop-row
decreases-loop-row l = length l.rows
