use Rattle.std.proofs.Common.{◌++◌, List, length}
use Rattle.lasp_workers.specs.Replicas.{pairs_of}
use Rattle.lasp_threads.specs.Spots.{Spot, spots_of, AreAt, HaveOut, AreKept}
use Rattle.lasp_threads.proofs.hands.rejoin_one.Given as goal

abbrev pub invariant-loop-node : goal.invariant-loop-node
invariant-loop-node g l = record {
  kept : AreKept l.stores l.fn.feeds l.feeds;
  at : AreAt l.stores (spots_of l.replicas);
  out : (spots : List Spot) → HaveOut (spots ++ spots_of l.fn.replicas) l.fn.feeds → HaveOut (spots ++ spots_of l.replicas) l.feeds;
}

abbrev pub decreases-loop-node : goal.decreases-loop-node
decreases-loop-node g l = length (pairs_of l.replicas)
