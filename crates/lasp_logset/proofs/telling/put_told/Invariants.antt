use Rattle.std.proofs.Common.{◌≤◌, ◌+◌, length}
use Rattle.std.specs.Prelude.{vec_len, vec_capacity}
use Rattle.std.specs.Vec.Iter.{into_iter_items}
use Rattle.indexmap.specs.IndexMap.{spare}
use Rattle.lasp_logset.specs.Chains.{StayRows}
use Rattle.lasp_logset.specs.Kept.{AreKept}
use Rattle.lasp_logset.specs.Taken.{IsTaking}
use Rattle.lasp_logset.proofs.telling.put_told.Given as goal

abbrev pub invariant-loop-row : goal.invariant-loop-row
invariant-loop-row l = record {
  kept : AreKept l.rows.entries l.log.items;
  stay : StayRows l.fn.rows.entries l.rows.entries;
  taking : IsTaking l.fn.log.items l.fn.coming.items (into_iter_items l.left) l.log.items l.told.items;
  spare : length (into_iter_items l.left) ≤ spare l.rows;
  room : length (into_iter_items l.left) ≤ l.log.room;
  place : vec_len l.told + length (into_iter_items l.left) ≤ vec_capacity l.told;
}

abbrev pub decreases-loop-row : goal.decreases-loop-row
decreases-loop-row l = length (into_iter_items l.left)
