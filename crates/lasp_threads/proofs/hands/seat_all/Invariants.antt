use Rattle.std.proofs.Common.{◌≡◌, ◌≤◌, ◌+◌, map, vec_len, vec_capacity}
use Rattle.lasp_threads.specs.Spots.{spots_of, all_spots, AreAt, HaveOut, HaveMade, AreKept}
use Rattle.lasp_threads.proofs.hands.seat_all.Given as goal

abbrev pub invariant-loop-i : goal.invariant-loop-i
invariant-loop-i g l = record {
  size : vec_len l.workers ≡ l.i;
  room : l.many ≤ vec_capacity l.workers;
  kept : AreKept l.stores l.fn.feeds l.feeds;
  at : AreAt l.stores (all_spots (map (λ w. spots_of w.replicas) l.workers.items));
  out : HaveOut (all_spots (map (λ w. spots_of w.replicas) l.workers.items)) l.feeds;
  made : HaveMade (l.i + 1) l.feeds;
}
