use Rattle.std.proofs.Common.{◌≡◌, ℕ, ◌++◌, List, length}
use Rattle.lasp_threads.specs.Spots.{Spot, spots_of, AreAt, HaveOut, HaveMade, AreMaking, AreKept}
use Rattle.lasp_threads.proofs.hands.seat.Given as goal

abbrev pub invariant-loop-node : goal.invariant-loop-node
invariant-loop-node g l = record {
  end : l.node-end ≡ length l.stores;
  kept : AreKept l.stores l.fn.feeds l.feeds;
  at : AreAt l.stores (spots_of l.replicas);
  out : (spots : List Spot) → HaveOut spots l.fn.feeds → HaveOut (spots ++ spots_of l.replicas) l.feeds;
  made : (most : ℕ) → HaveMade most l.fn.feeds → AreMaking most l.node l.feeds;
}
