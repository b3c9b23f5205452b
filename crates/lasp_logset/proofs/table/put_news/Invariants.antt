use Rattle.std.proofs.Common.{◌≡◌, ◌≤◌, ◌++◌, length}
use Rattle.std.specs.Vec.Iter.{into_iter_items}
use Rattle.indexmap.specs.IndexMap.{spare}
use Rattle.model_sets.specs.Rises.{AreRises}
use Rattle.lasp_logset.specs.Chains.{StayRows}
use Rattle.lasp_logset.specs.Kept.{AreKept}
use Rattle.lasp_logset.proofs.table.put_news.Given as goal

abbrev pub invariant-loop-coming : goal.invariant-loop-coming
invariant-loop-coming l = record {
  kept : AreKept l.rows.entries l.log.items;
  stay : StayRows l.fn.rows.entries l.rows.entries;
  items : l.log.items ++ into_iter_items l.left ≡ l.fn.log.items ++ l.fn.news.items;
  rises : AreRises l.log.items (into_iter_items l.left);
  spare : length (into_iter_items l.left) ≤ spare l.rows;
  room : length (into_iter_items l.left) ≤ l.log.room;
}

abbrev pub decreases-loop-coming : goal.decreases-loop-coming
decreases-loop-coming l = length (into_iter_items l.left)
