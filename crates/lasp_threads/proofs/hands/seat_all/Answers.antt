use Rattle.std.proofs.Common.{◌+◌, List, map, sym, subst, arith}
use Rattle.lasp_threads.specs.Spots.{Spot, spots_of, all_spots, AreAt, HaveOut}
use Rattle.lasp_threads.proofs.KeptLaws.{kept-then}
use Rattle.lasp_threads.proofs.SpotLaws.{at-both, workers-popped}
use Rattle.lasp_threads.proofs.hands.seat_all.Goals as goal

pub loop-i-preserved : goal.loop-i-preserved
loop-i-preserved g c =
    let before = all_spots (map (λ w. spots_of w.replicas) c.loop-i.workers.items) in
    let more = workers-popped c.push.new.self.items c.loop-i.workers.items _ (λ w. spots_of w.replicas) c.in-Ok-push.ensures.items in
    record {
      size = omega (arith, c.in-Ok-push.ensures.len, c.loop-i.invariant.size);
      room = omega (arith, c.in-Ok-push.ensures.capacity, c.loop-i.invariant.room);
      kept = kept-then c.args.stores.now c.args.feeds.now c.loop-i.feeds c.seat-replicas.new.feeds c.loop-i.invariant.kept c.seat-replicas.ensures.kept;
      at = subst (λ (l : List Spot). AreAt c.args.stores.now l) (sym more) (at-both c.args.stores.now before (spots_of c.seat-replicas.result) c.loop-i.invariant.at c.seat-replicas.ensures.at);
      out = subst (λ (l : List Spot). HaveOut l c.seat-replicas.new.feeds) (sym more) (c.seat-replicas.ensures.out before c.loop-i.invariant.out);
      made = c.seat-replicas.ensures.made (c.loop-i.i + 1) c.loop-i.invariant.made;
    }
