use Rattle.std.proofs.Common.{length, map}
use Rattle.lasp_threads.specs.Spots.{spots_of, all_spots, AreAt, HaveOut, AreKept}
use Rattle.lasp_threads.proofs.hands.rejoin_all.Given as goal

abbrev pub invariant-loop-worker : goal.invariant-loop-worker
invariant-loop-worker g l = record {
  kept : AreKept l.stores l.fn.feeds l.feeds;
  at : AreAt l.stores (all_spots (map (λ w. spots_of w.replicas) l.workers.items));
  out : HaveOut (all_spots (map (λ w. spots_of w.replicas) l.fn.workers.items)) l.fn.feeds → HaveOut (all_spots (map (λ w. spots_of w.replicas) l.workers.items)) l.feeds;
}

abbrev pub decreases-loop-worker : goal.decreases-loop-worker
decreases-loop-worker g l = length l.workers.items
