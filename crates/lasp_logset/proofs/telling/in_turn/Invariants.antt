use Rattle.std.proofs.Common.{◌≡◌, ◌++◌, length}
use Rattle.std.specs.Vec.Iter.{into_iter_items}
use Rattle.lasp_logset.specs.Taken.{dead_of, live_of}
use Rattle.lasp_logset.proofs.telling.in_turn.Given as goal

abbrev pub invariant-loop-entry : goal.invariant-loop-entry
invariant-loop-entry l = record {
  dead : l.dead.items ++ dead_of (into_iter_items l.left) ≡ dead_of l.fn.rows.items;
  live : l.live.items ++ live_of (into_iter_items l.left) ≡ live_of l.fn.rows.items;
}

abbrev pub decreases-loop-entry : goal.decreases-loop-entry
decreases-loop-entry l = length (into_iter_items l.left)
