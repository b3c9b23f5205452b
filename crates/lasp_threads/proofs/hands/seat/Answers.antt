use Rattle.std.proofs.Common.{◌≡◌, ℕ, ◌+◌, ◌++◌, ◌∷◌, [], List, map, refl, sym, ap, subst, ◌∙◌, arith}
use Rattle.lasp_store.specs.Turn.{Knows}
use Rattle.lasp_workers.specs.Replicas.{pairs_of}
use Rattle.lasp_threads.specs.Spots.{Spot, spot_of, spots_of, HaveOut}
use Rattle.lasp_threads.proofs.KeptLaws.{kept-then}
use Rattle.lasp_threads.proofs.SpotLaws.{making-ends, pairs-at, pairs-out}
use Rattle.lasp_threads.proofs.hands.seat.Goals as goal

pub split_at-hand-requires-clause-room : goal.split_at-hand-requires-clause-room
split_at-hand-requires-clause-room g c = λ f at. omega (arith, (c.loop-node.invariant.made 4294967294 c.requires.room).behind c.loop-node.node f at (omega arith))

pub returns-in-Err-clause-kept : goal.returns-in-Err-clause-kept
returns-in-Err-clause-kept g c =
    kept-then c.args.stores.now c.args.feeds.now c.split_at-hand.new.feeds c.rejoin_at.new.feeds
    (kept-then c.args.stores.now c.args.feeds.now c.loop-node.feeds c.split_at-hand.new.feeds c.loop-node.invariant.kept c.split_at-hand.ensures.kept) c.rejoin_at.ensures.kept

pub returns-in-Err-clause-out : goal.returns-in-Err-clause-out
returns-in-Err-clause-out g c = λ spots out.
    let before : List Spot = spots_of c.loop-node.replicas in
    let hand : c.into_hand.result ≡ c.split_at-hand.result = c.into_hand.ensures.hand ∙ ap (λ (s : Knows × ℕ). s.0) (c.in-Err.ensures.back ∙ c.new.ensures) in
    subst (λ (l : List (ℕ × (Knows × ℕ))). HaveOut (spots ++ map spot_of l) c.rejoin_at.new.feeds) (sym c.in-Err.ensures.err)
    (c.rejoin_at.ensures.out (spots ++ before)
    (subst (λ (q : Knows). HaveOut ((spots ++ before) ++ (c.loop-node.node, q.lock, q.number) ∷ []) c.split_at-hand.new.feeds) (sym hand)
    (c.split_at-hand.ensures.out (spots ++ before) (c.loop-node.invariant.out spots out))))

pub returns-in-Err-clause-made : goal.returns-in-Err-clause-made
returns-in-Err-clause-made g c = λ most made.
    c.rejoin_at.ensures.made (most + 1) (making-ends most (c.loop-node.node + 1) c.split_at-hand.new.feeds (c.split_at-hand.ensures.making most (c.loop-node.invariant.made most made)))

pub loop-node-preserved : goal.loop-node-preserved
loop-node-preserved g c =
    let hand : c.split_at-hand.result ≡ c.new.result.0 = sym (ap (λ (s : Knows × ℕ). s.0) c.new.ensures) in
    let all = pairs_of c.push.new.self in
    let before = pairs_of c.loop-node.replicas in
    record {
      end = refl;
      kept = kept-then c.args.stores.now c.args.feeds.now c.loop-node.feeds c.split_at-hand.new.feeds c.loop-node.invariant.kept c.split_at-hand.ensures.kept;
      at = pairs-at c.args.stores.now all before c.loop-node.node c.new.result c.split_at-hand.result hand c.in-Ok.ensures.ok c.loop-node.invariant.at c.split_at-hand.ensures.at;
      out = λ spots out. pairs-out spots c.split_at-hand.new.feeds all before c.loop-node.node c.new.result c.split_at-hand.result hand c.in-Ok.ensures.ok
          (c.split_at-hand.ensures.out (spots ++ map spot_of before) (c.loop-node.invariant.out spots out));
      made = λ most made. c.split_at-hand.ensures.making most (c.loop-node.invariant.made most made);
    }

pub returns-clause-made : goal.returns-clause-made
returns-clause-made g c = λ most made. making-ends most c.loop-node.node c.loop-node.feeds (c.loop-node.invariant.made most made)
