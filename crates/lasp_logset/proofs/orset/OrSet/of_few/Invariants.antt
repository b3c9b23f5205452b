use Rattle.std.proofs.Common.{◌≡◌, take}
use Rattle.model_sets.specs.Rows.{of_rows}
use Rattle.lasp_logset.proofs.orset.OrSet.of_few.Given as goal

abbrev pub invariant-loop-row : goal.invariant-loop-row
invariant-loop-row l = l.set ≡ of_rows (take l.row-index l.rows)
