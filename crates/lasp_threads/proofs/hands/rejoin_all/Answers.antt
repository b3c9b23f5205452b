use Rattle.std.proofs.Common.{List, map, subst}
use Rattle.lasp_threads.specs.Spots.{Spot, spots_of, all_spots, AreAt, HaveOut}
use Rattle.lasp_threads.proofs.KeptLaws.{kept-then}
use Rattle.lasp_threads.proofs.SpotLaws.{at-first, at-second, workers-popped}
use Rattle.lasp_threads.proofs.hands.rejoin_all.Goals as goal

pub rejoin_one-requires-clause-at : goal.rejoin_one-requires-clause-at
rejoin_one-requires-clause-at g c =
    let left = all_spots (map (λ w. spots_of w.replicas) c.pop.new.self.items) in
    at-second c.args.stores.now left (spots_of c.in-Some.worker.replicas)
    (subst (λ (l : List Spot). AreAt c.args.stores.now l) (workers-popped c.loop-worker.workers.items c.pop.new.self.items c.in-Some.worker (λ w. spots_of w.replicas) c.in-Some.ensures.items) c.loop-worker.invariant.at)

pub loop-worker-preserved : goal.loop-worker-preserved
loop-worker-preserved g c =
    let left = all_spots (map (λ w. spots_of w.replicas) c.pop.new.self.items) in
    let all = workers-popped c.loop-worker.workers.items c.pop.new.self.items c.in-Some.worker (λ w. spots_of w.replicas) c.in-Some.ensures.items in
    record {
      kept = kept-then c.args.stores.now c.args.feeds.now c.loop-worker.feeds c.rejoin_one.new.feeds c.loop-worker.invariant.kept c.rejoin_one.ensures.kept;
      at = at-first c.args.stores.now left (spots_of c.in-Some.worker.replicas) (subst (λ (l : List Spot). AreAt c.args.stores.now l) all c.loop-worker.invariant.at);
      out = λ out. c.rejoin_one.ensures.out left (subst (λ (l : List Spot). HaveOut l c.loop-worker.feeds) all (c.loop-worker.invariant.out out));
    }
