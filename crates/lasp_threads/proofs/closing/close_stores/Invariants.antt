use Rattle.std.proofs.Common.{◌≡◌, ◌++◌, List, length}
use Rattle.std.specs.Vec.Iter.{into_iter_items}
use Rattle.lasp_store.specs.Turn.{Knows}
use Rattle.lasp_threads.specs.Closed.{AreClosable, AreClosed}
use Rattle.lasp_threads.proofs.closing.close_stores.Given as goal

abbrev pub invariant-loop-store : goal.invariant-loop-store
invariant-loop-store l = record {
  closable : AreClosable (into_iter_items l.stores_left) (into_iter_items l.feeds_left);
  closed : (done : List Knows) × (done ++ into_iter_items l.feeds_left ≡ l.fn.feeds.items) × AreClosed done l.cores.items;
}

abbrev pub decreases-loop-store : goal.decreases-loop-store
decreases-loop-store l = length (into_iter_items l.stores_left)
