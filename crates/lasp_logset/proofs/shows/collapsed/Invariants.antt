use Rattle.std.proofs.Common.{◌≡◌, ◌++◌, length}
use Rattle.std.specs.Vec.Iter.{into_iter_items}
use Rattle.model_sets.specs.Loops.{collapse_from, collapse}
use Rattle.lasp_logset.proofs.shows.collapsed.Given as goal

abbrev pub invariant-loop-row : goal.invariant-loop-row
invariant-loop-row l = l.rows.items ++ collapse_from l.last (into_iter_items l.left) ≡ collapse l.fn.sorted.items

abbrev pub decreases-loop-row : goal.decreases-loop-row
decreases-loop-row l = length (into_iter_items l.left)
