-- A hand that comes back makes the feed learn results at most.
use Rattle.std.proofs.Common.{◌≡◌, List, [], Option, None, length, take, refl, sym, ap, subst, ◌∙◌, append-nil, arith}
use Rattle.std.specs.Prelude.{All}
use Rattle.std.proofs.lemmas.List.{take_all}
use mathlib.Core.List.{IsPrefix}
use Rattle.model_journal.specs.Entry.{Entry, Frame}
use Rattle.model_journal.specs.Callers.{MayMake, made_by}
use Rattle.model_journal.specs.Legal.{IsLegal}
use Rattle.lasp_drive.specs.Node.{NodeView, OnlyLearns}
use Rattle.lasp_drive.specs.Reads.{as_they_are}
use Rattle.lasp_histlock.specs.Names.{LockId}
use Rattle.lasp_histlock.specs.Passes.{after_rejoin, after_split}
use Rattle.lasp_store.specs.Turn.{Knows, HadTurn, IsSeated, after_turn, looked_at, frame_of}
use Rattle.lasp_store.specs.Settled.{GoesOnByBinds, KnowsOwn}
use Rattle.lasp_store.proofs.SettleLaws.{turn-settles}
use Rattle.lasp_store_node.specs.View.{seen, IsFeed}
use Rattle.lasp_store_node.proofs.FeedLaws.{turn-learns}
use Rattle.lasp_threads.specs.Spots.{feed_seen, IsKept}

-- What a feed learns by a hand that comes back it would have learned by a turn of its own that found the same list.
module _ (store : LockId) (hand old new : Knows) (feed : IsFeed store old) (own-old : KnowsOwn old) (own-new : KnowsOwn new) (is : new ≡ after_rejoin hand old) (p : IsPrefix old.seen new.seen) (legal : IsLegal (frame_of new) new.seen) where
  frame : new.frame ≡ old.frame
  frame = ap (λ (q : Knows). q.frame) is

  node_at : Option Frame → List Entry → NodeView
  node_at f l = feed_seen (record old { frame = f; seen = l })

  before : Knows
  before = record old { told = 0 }

  turned : Knows
  turned = after_turn old.misses new.seen [] (record old { told = 0 })

  feed-before : IsFeed store (record old { told = 0 })
  feed-before = record { seated = record { lock = feed.seated.lock; idle = feed.seated.idle; framed = feed.seated.framed; legal = feed.seated.legal }; first = feed.first }

  own-before : KnowsOwn (record old { told = 0 })
  own-before = record { own = own-old.own; allowed = own-old.allowed }

  own-turned : KnowsOwn (after_turn old.misses new.seen [] (record old { told = 0 }))
  own-turned = record {
    own = append-nil old.own ∙ sym (ap (λ (q : Knows). q.own) is) ∙ own-new.own ∙ (λ i. made_by (ap (λ (q : Knows). q.number) is i) (sym (append-nil new.seen) i));
    allowed = subst (λ (l : List Entry). All (λ (e : Entry). (e.by ≡ e.by) × MayMake e.by e.act) l) (sym (append-nil new.seen)) own-new.allowed;
  }

  found : looked_at (after_turn old.misses new.seen [] (record old { told = 0 })) ≡ new.seen
  found = ap (take (length new.seen)) (append-nil new.seen) ∙ take_all (length new.seen) new.seen (omega arith)

  turn : HadTurn [] (record old { told = 0 }) (after_turn old.misses new.seen [] (record old { told = 0 }))
  turn = record {
    goes_on = (p.0, found ∙ sym p.1);
    pass = ap (λ (l : List Entry). after_turn old.misses l [] (record old { told = 0 })) (sym found);
    misses = omega arith;
    told = omega arith;
    framed = feed.seated.framed;
    legal = subst (λ (z : Option Frame × List Entry). IsLegal (frame_of (record old { frame = z.0 })) z.1) (λ i. (frame i, sym (append-nil new.seen) i)) legal;
  }

  rejoined-learns : OnlyLearns (feed_seen old) (feed_seen new)
  unfolding before turned node_at
  rejoined-learns = subst (λ (z : Option Frame × List Entry). OnlyLearns (feed_seen old) (node_at z.0 z.1)) (λ i. (sym frame i, append-nil new.seen i))
      (turn-learns as_they_are store before None (seen before None) turned refl (omega arith) feed-before own-before own-turned turn)

  rejoined-seen : GoesOnByBinds old.seen new.seen
  unfolding before turned
  rejoined-seen = subst (GoesOnByBinds old.seen) (append-nil new.seen) (turn-settles before turned [] own-before own-turned feed.first feed.seated.idle tt turn).seen

pub rejoined-kept : (store : LockId) (hand old new : Knows) → IsFeed store old → KnowsOwn old → KnowsOwn new → new ≡ after_rejoin hand old → IsPrefix old.seen new.seen → IsSeated store new → IsKept store old new
rejoined-kept store hand old new feed own-old own-new is p seated = record {
  feed = record { seated = seated; first = ap (λ (q : Knows). q.number) is ∙ feed.first };
  frame = ap (λ (q : Knows). q.frame) is;
  learns = rejoined-learns store hand old new feed own-old own-new is p seated.legal;
  seen = rejoined-seen store hand old new feed own-old own-new is p seated.legal;
}

-- A feed that makes a hand is what it was, but for the number of its hands.
pub split-kept : (store : LockId) (old new : Knows) → IsFeed store old → new ≡ after_split old → IsKept store old new
split-kept store old new feed is = subst (IsKept store old) (sym is) (record {
  feed = record { seated = record { lock = feed.seated.lock; idle = feed.seated.idle; framed = feed.seated.framed; legal = feed.seated.legal }; first = feed.first };
  frame = refl;
  learns = learned;
  seen = ([], sym (append-nil old.seen), tt);
}) where
  learned : OnlyLearns (feed_seen old) (feed_seen old)
  learned = record { learns = record { still = record { graph = refl; replica = refl; nodes = refl }; peer = refl; calls = refl; more = λ x threshold met. met; settled = λ settled. refl }; reads = refl; sent = refl }
