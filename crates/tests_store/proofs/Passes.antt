-- What a call leaves of a pass that may make every call of its tests.
use Rattle.std.proofs.Common.{◌≡◌, ℕ, List, [], ◌∷◌, ◌++◌, length, Ok, Err, refl, sym, ap, subst, ◌∙◌, append-nil, arith}
use Rattle.std.specs.Prelude.{Option, Some, None, Result, OnOk, OnErr, IfOk, IsOkAnd}
use Rattle.model_graph.specs.Graph.{Decl}
use Rattle.model_journal.specs.Entry.{Entry, Frame}
use Rattle.model_journal.specs.Journal.{declared}
use Rattle.lasp_histlock.specs.Names.{LockId}
use Rattle.lasp_histlock.specs.Passes.{first_pass, new_pass, after_look, after_miss, after_split, after_rejoin}
use Rattle.model_core.specs.Core.{Read}
use Rattle.lasp_core.specs.Core.{IsOpen}
use Rattle.lasp_core.specs.Reads.{read_of}
use Rattle.lasp_core.specs.Watched.{IsBusy}
use Rattle.lasp_core.specs.declared.read.ReadNo.{ReadNo}
use Rattle.lasp_core.specs.declared.watched.Try.{Try}
use Rattle.lasp_core.specs.declared.watched.Try.TheVariants.{Busy, Refused}
use Rattle.lasp_store.specs.Tried.{IfRefused}
use Rattle.lasp_store.specs.Turn.{Knows, HadTurn, TriedTurn, IsSeated, frame_of, graph_seen}
use Rattle.lasp_store.specs.Settled.{KnowsOwn, HasSettled}
use Rattle.lasp_store.proofs.TurnLaws.{turn-at, turn-seated, turn-declared, tried-at}
use Rattle.lasp_store.proofs.SettleLaws.{turn-graph}
use Rattle.tests_store.specs.Kept.{IsFeed, IsHand, MayPoll, HasAsked}

-- ---- feeds

-- the feed of a new store
pub feed-opened : {E : Type 0} (r : Result (LockId × Knows) E) (g : List Decl) (me nodes : ℕ) → IfOk r (λ made. made.1 ≡ first_pass made.0 (record { opening = g; replica = me; nodes = nodes })) → IfOk r (λ made. IsSeated made.0 made.1)
    → IfOk r (λ made. IsFeed made.0 g made.1)
feed-opened (Ok made) g me nodes is seated = record {
  seated = seated;
  first = ap (λ (p : Knows). p.number) is;
  graph = ap (λ (p : Knows). graph_seen p) is;
}
feed-opened (Err why) g me nodes is seated = tt

-- a turn in which the feed declares these variables
pub feed-turn : (store : LockId) (g longer : List Decl) (more : List Entry) (old new : Knows) → KnowsOwn old → KnowsOwn new → longer ≡ g ++ declared more → IsFeed store g old → HadTurn more old new → IsFeed store longer new
feed-turn store g longer more old new own-old own-new is feed t = record {
  seated = turn-seated store old new more feed.seated.lock t;
  first = ap (λ (p : Knows). p.number) t.pass ∙ feed.first;
  graph = turn-graph old new more own-old own-new feed.first t ∙ ap (λ (ds : List Decl). ds ++ declared more) feed.graph ∙ sym is;
}

-- one in which it declares none
pub feed-same : (store : LockId) (g : List Decl) (more : List Entry) (old new : Knows) → KnowsOwn old → KnowsOwn new → declared more ≡ [] → IsFeed store g old → HadTurn more old new → IsFeed store g new
feed-same store g more old new own-old own-new is feed t =
    feed-turn store g g more old new own-old own-new (sym (ap (λ (ds : List Decl). g ++ ds) is ∙ append-nil g)) feed t

-- a call that adds an entry, or is refused
pub feed-done : {A E : Type 0} (store : LockId) (g : List Decl) (e : Entry) (old new : Knows) (r : Result A E) → KnowsOwn old → KnowsOwn new → declared (e ∷ []) ≡ [] → IsFeed store g old
    → OnOk r (HadTurn (e ∷ []) old new) → OnErr r (HadTurn [] old new) → IsFeed store g new
feed-done store g e old new (Ok a) own-old own-new is feed ok err = feed-same store g (e ∷ []) old new own-old own-new is feed ok
feed-done store g e old new (Err why) own-old own-new is feed ok err = feed-same store g [] old new own-old own-new refl feed err

feed-missed : (store : LockId) (g : List Decl) (old : Knows) → IsFeed store g old → IsFeed store g (after_miss old)
feed-missed store g old feed = record {
  seated = record { lock = feed.seated.lock; idle = feed.seated.idle; framed = feed.seated.framed; legal = feed.seated.legal };
  first = feed.first;
  graph = feed.graph;
}

-- a call that tries once
pub feed-tried : {A E : Type 0} (store : LockId) (g : List Decl) (more : List Entry) (old new : Knows) (r : Result A (Try E)) → KnowsOwn old → KnowsOwn new → declared more ≡ [] → IsFeed store g old
    → (IsBusy r → new ≡ after_miss old) → OnOk r (TriedTurn more old new) → IfRefused r (λ why. TriedTurn [] old new) → IsFeed store g new
feed-tried store g more old new (Ok a) own-old own-new is feed busy ok refused = feed-same store g more old new own-old own-new is feed ok.turn
feed-tried store g more old new (Err Busy) own-old own-new is feed busy ok refused = subst (λ (p : Knows). IsFeed store g p) (sym (busy tt)) (feed-missed store g old feed)
feed-tried store g more old new (Err (Refused why)) own-old own-new is feed busy ok refused = feed-same store g [] old new own-old own-new refl feed refused.turn

-- ---- hands

pub hand_turn : (store : LockId) (many : ℕ) (more : List Entry) (old new : Knows) → IsHand store many old → HadTurn more old new → IsHand store many new
hand_turn store many more old new hand t = record {
  seated = turn-seated store old new more hand.seated.lock t;
  many_are = omega (arith, hand.many_are, turn-declared more old new t);
}

-- a call that tries once
pub hand_tried : {A E : Type 0} (store : LockId) (many : ℕ) (old new : Knows) (r : Result A (Try E)) → IsHand store many old → (IsBusy r → new ≡ after_miss old) → OnOk r (TriedTurn [] old new) → IfRefused r (λ why. TriedTurn [] old new) → IsHand store many new
hand_tried store many old new (Ok a) hand busy ok refused = hand_turn store many [] old new hand ok.turn
hand_tried store many old new (Err Busy) hand busy ok refused = subst (λ (p : Knows). IsHand store many p) (sym (busy tt)) (record {
  seated = record { lock = hand.seated.lock; idle = hand.seated.idle; framed = hand.seated.framed; legal = hand.seated.legal };
  many_are = hand.many_are;
})
hand_tried store many old new (Err (Refused why)) hand busy ok refused = hand_turn store many [] old new hand refused.turn

-- a read that may be asked may be asked where the entries go on
abbrev pub ReadsStay : Type 0
ReadsStay = (X : Frame) (entries more : List Entry) (r : Read) → IsOpen X entries r → IsOpen X (entries ++ more) r

pub asked-turn : (store : LockId) (many : ℕ) (old new : Knows) → ReadsStay → IsHand store many old → HadTurn [] old new → HasAsked store many old new
asked-turn store many old new stay hand t = record {
  hand = hand_turn store many [] old new hand t;
  polls = λ read may. polled read may;
} where
  polled : (read : Option ReadNo) → MayPoll old read → MayPoll new read
  polled None may = tt
  polled (Some r) may = turn-at (λ (X : Frame) (L : List Entry). IsOpen X L (read_of r)) [] old new t (λ more. stay (frame_of old) old.seen more (read_of r) may)

pub polled-tried : {A E : Type 0} (old new : Knows) (r : Result A (Try E)) → ReadsStay → (IsBusy r → new ≡ after_miss old) → OnOk r (TriedTurn [] old new) → IfRefused r (λ why. TriedTurn [] old new)
    → (read : Option ReadNo) → MayPoll old read → MayPoll new read
polled-tried old new r stay busy ok refused None may = tt
polled-tried old new r stay busy ok refused (Some one) may =
    tried-at (λ (X : Frame) (L : List Entry). IsOpen X L (read_of one)) old new r busy ok refused may (λ more. stay (frame_of old) old.seen more (read_of one) may)

pub asked-tried : {A E : Type 0} (store : LockId) (many : ℕ) (old new : Knows) (r : Result A (Try E)) → ReadsStay → IsHand store many old → (IsBusy r → new ≡ after_miss old) → OnOk r (TriedTurn [] old new) → IfRefused r (λ why. TriedTurn [] old new)
    → HasAsked store many old new
asked-tried store many old new r stay hand busy ok refused = record {
  hand = hand_tried store many old new r hand busy ok refused;
  polls = polled-tried old new r stay busy ok refused;
}

-- two calls, one after the other
pub asked-then : (store : LockId) (many : ℕ) (old mid new : Knows) → HasAsked store many old mid → HasAsked store many mid new → HasAsked store many old new
asked-then store many old mid new one other = record {
  hand = other.hand;
  polls = λ read may. other.polls read (one.polls read may);
}

-- a hand that was told how many entries there are
pub asked-length : (store : LockId) (many n : ℕ) (old new : Knows) → new ≡ after_look n old → IsHand store many old → HasAsked store many old new
asked-length store many n old new is hand = subst (λ (p : Knows). HasAsked store many old p) (sym is) (record {
  hand = record {
    seated = record { lock = hand.seated.lock; idle = hand.seated.idle; framed = hand.seated.framed; legal = hand.seated.legal };
    many_are = hand.many_are;
  };
  polls = λ read may. may;
})

-- ---- a hand that is split from a feed

pub feed-split : (store : LockId) (g : List Decl) (old new : Knows) → new ≡ after_split old → IsFeed store g old → IsFeed store g new
feed-split store g old new is feed = subst (λ (p : Knows). IsFeed store g p) (sym is) (record {
  seated = record { lock = feed.seated.lock; idle = feed.seated.idle; framed = feed.seated.framed; legal = feed.seated.legal };
  first = feed.first;
  graph = feed.graph;
})

pub hand-split : {E : Type 0} (store : LockId) (g : List Decl) (f : Knows) (r : Result Knows E) → IsOkAnd r (λ hand. hand ≡ new_pass f) → IsFeed store g f → IfOk r (IsHand store (length g))
hand-split store g f (Ok hand) is feed = subst (λ (p : Knows). IsHand store (length g) p) (sym is) (record {
  seated = record { lock = feed.seated.lock; idle = refl; framed = feed.seated.framed; legal = feed.seated.legal };
  many_are = let long = ap (λ (ds : List Decl). length ds) feed.graph in omega (arith, long);
})
hand-split store g f (Err why) is feed = absurd is

-- ---- a hand that comes back

-- a hand of this store, free and on a legal list, told by its own lock
pub seated-here : (store : LockId) (h : Knows) → h.lock ≡ store → IsSeated h.lock h → IsSeated store h
seated-here store h is seated = subst (λ (l : LockId). IsSeated l h) is seated

pub feed-rejoined : (store : LockId) (g : List Decl) (h old new : Knows) → new ≡ after_rejoin h old → graph_seen new ≡ graph_seen old → IsSeated store new → IsFeed store g old → IsFeed store g new
feed-rejoined store g h old new is same seated feed = record {
  seated = seated;
  first = ap (λ (p : Knows). p.number) is ∙ feed.first;
  graph = same ∙ feed.graph;
}

-- ---- a feed that settled its store

pub feed-settled : (store : LockId) (g : List Decl) (old new : Knows) → HasSettled old new → IsSeated store new → graph_seen new ≡ graph_seen old → IsFeed store g old → IsFeed store g new
feed-settled store g old new t seated same feed = record {
  seated = seated;
  first = ap (λ (p : Knows). p.number) t.pass ∙ feed.first;
  graph = same ∙ feed.graph;
}
