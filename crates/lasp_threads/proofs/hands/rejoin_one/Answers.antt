use Rattle.std.proofs.Common.{ℕ, ◌++◌, ◌∷◌, [], List, length, map, ap, subst, ◌∙◌, append-nil, length-append, arith}
use Rattle.lasp_store.specs.Turn.{Knows}
use Rattle.lasp_workers.specs.Replicas.{pairs_of}
use Rattle.lasp_threads.specs.Spots.{Spot, spot_of, HaveOut}
use Rattle.lasp_threads.proofs.KeptLaws.{kept-then}
use Rattle.lasp_threads.proofs.SpotLaws.{pairs-popped, out-popped}
use Rattle.lasp_threads.proofs.hands.rejoin_one.Goals as goal

pub rejoin_at-requires-clause-at : goal.rejoin_at-requires-clause-at
rejoin_at-requires-clause-at g c =
    (pairs-popped c.args.stores.now (pairs_of c.loop-node.replicas) (pairs_of c.pop.new.self) c.in-Some.node c.in-Some.seated c.into_hand.result c.into_hand.ensures.hand c.in-Some.ensures.some c.loop-node.invariant.at).1

pub loop-node-smaller : goal.loop-node-smaller
loop-node-smaller g c = omega (arith, ap (λ (l : List (ℕ × (Knows × ℕ))). length l) c.in-Some.ensures.some, length-append (pairs_of c.pop.new.self) ((c.in-Some.node, c.in-Some.seated) ∷ []))

pub loop-node-preserved : goal.loop-node-preserved
loop-node-preserved g c =
    let all = pairs_of c.loop-node.replicas in
    let left = pairs_of c.pop.new.self in
    record {
      kept = kept-then c.args.stores.now c.args.feeds.now c.loop-node.feeds c.rejoin_at.new.feeds c.loop-node.invariant.kept c.rejoin_at.ensures.kept;
      at = (pairs-popped c.args.stores.now all left c.in-Some.node c.in-Some.seated c.into_hand.result c.into_hand.ensures.hand c.in-Some.ensures.some c.loop-node.invariant.at).0;
      out = λ spots out. c.rejoin_at.ensures.out (spots ++ map spot_of left)
          (out-popped spots c.loop-node.feeds all left c.in-Some.node c.in-Some.seated c.into_hand.result c.into_hand.ensures.hand c.in-Some.ensures.some (c.loop-node.invariant.out spots out));
    }

pub returns-clause-out : goal.returns-clause-out
returns-clause-out g c = λ spots out.
    subst (λ (l : List Spot). HaveOut l c.loop-node.feeds) (ap (λ (l : List (ℕ × (Knows × ℕ))). spots ++ map spot_of l) c.in_default.ensures.none.0 ∙ append-nil spots) (c.loop-node.invariant.out spots out)
