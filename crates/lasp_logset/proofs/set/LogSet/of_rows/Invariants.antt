use Rattle.std.proofs.Common.{◌≡◌, take}
use Rattle.model_sets.specs.Rows.{of_rows}
use Rattle.lasp_logset.proofs.set.LogSet.of_rows.Given as goal

abbrev pub invariant-loop-row : goal.invariant-loop-row
invariant-loop-row l = of_rows l.set ≡ of_rows (take l.row-index l.rows)
