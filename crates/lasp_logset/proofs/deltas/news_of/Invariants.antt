use Rattle.std.proofs.Common.{◌≡◌, length}
use Rattle.model_sets.specs.Rows.{of_rows, join}
use Rattle.model_sets.specs.Equations.{changed}
use Rattle.lasp_logset.proofs.deltas.news_of.Given as goal

abbrev pub invariant-loop-row : goal.invariant-loop-row
invariant-loop-row l = join l.news (changed l.known l.left) ≡ of_rows (changed l.known l.initial.left)

abbrev pub decreases-loop-row : goal.decreases-loop-row
decreases-loop-row l = length l.left
