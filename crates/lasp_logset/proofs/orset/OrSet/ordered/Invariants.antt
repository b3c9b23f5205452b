use Rattle.std.proofs.Common.{◌≡◌, ◌++◌, length}
use Rattle.lasp_logset.proofs.orset.OrSet.ordered.Given as goal

abbrev pub invariant-loop-row : goal.invariant-loop-row
invariant-loop-row l = l.rows.items ++ l.left ≡ l.self

abbrev pub decreases-loop-row : goal.decreases-loop-row
decreases-loop-row l = length l.left
