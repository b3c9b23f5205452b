-- What a feed that was lent keeps.
use Rattle.std.proofs.Common.{◌≡◌, ℕ, List, [], Option, Some, None, Result, Ok, Err, refl, sym, ap, subst, ◌∙◌, append-nil, arith}
use Rattle.std.specs.Prelude.{OnOk, IfOk}
use Rattle.model_states.specs.Content.{Content}
use Rattle.model_states.specs.Threshold.{Threshold, AtLeast, Above, Count, Added, Removed}
use Rattle.model_graph.specs.Evaluation.{content_at}
use Rattle.model_world.specs.World.{shown_at}
use Rattle.model_journal.specs.Entry.{Entry, Frame}
use Rattle.model_journal.specs.Journal.{val}
use Rattle.model_core.specs.Known.{HasLeast}
use Rattle.lasp_core.specs.Core.{IsOpen}
use Rattle.lasp_core.specs.Reads.{read_of}
use Rattle.lasp_core.specs.declared.read.ReadNo.{ReadNo}
use Rattle.lasp_core.specs.Watched.{IsBusy}
use Rattle.lasp_core.specs.declared.watched.Try.{Try}
use Rattle.lasp_core.specs.declared.watched.Try.TheVariants.{Busy, Refused}
use Rattle.lasp_histlock.specs.Names.{LockId}
use Rattle.lasp_histlock.specs.Passes.{after_miss}
use Rattle.lasp_drive.specs.Node.{Learns, LearnsAnd, OnlyLearns}
use Rattle.lasp_drive.specs.Reads.{Grows, Reads, as_they_are}
use Rattle.lasp_store.specs.Turn.{Knows, HadTurn, TriedTurn, frame_in}
use Rattle.lasp_store.specs.Settled.{KnowsOwn}
use Rattle.lasp_store.specs.Tried.{IfRefused}
use Rattle.lasp_store.proofs.TurnLaws.{turn-seen}
use Rattle.lasp_node.specs.declared.node.LastSent.{LastSent}
use Rattle.lasp_store_node.specs.View.{Seen, seen, IsEarly, node_of, node_seen, Place, IsFeed}
use Rattle.lasp_store_node.specs.Lent.{IsHeld, IsLent, IsLentFrom}
use Rattle.lasp_store_node.proofs.FeedLaws.{posted-later, learns-whatever, turn-learns, turn-place}
use Rattle.lasp_store.proofs.PassedLaws.{goes-on-chain}

-- what a node learns by two calls it learns by both
pub learns-chain : (change : List Content → Reads → Reads) (a b c : Seen) → OnlyLearns (node_seen a) (node_seen b) → OnlyLearns (node_seen b) (node_seen c) → LearnsAnd change (node_seen a) (node_seen c)
learns-chain change a b c first second = record {
  learns = record {
    still = record { graph = y.still.graph ∙ x.still.graph; replica = y.still.replica ∙ x.still.replica; nodes = y.still.nodes ∙ x.still.nodes };
    peer = y.peer ∙ x.peer;
    calls = y.calls ∙ x.calls;
    more = λ v threshold met. y.more v threshold (x.more v threshold met);
    settled = λ settled. y.settled (x.settled settled ∙ settled ∙ (λ i. shown_at (sym x.still.graph i) (sym x.peer i))) ∙ x.settled settled;
  };
  reads = refl;
  sent = second.sent ∙ first.sent;
} where
  x : Learns (node_seen a) (node_seen b)
  x = first.learns

  y : Learns (node_seen b) (node_seen c)
  y = second.learns

-- it learns nothing by no call
learns-nothing : (a : Knows) → OnlyLearns (node_of a None) (node_of a None)
learns-nothing a = record {
  learns = record { still = record { graph = refl; replica = refl; nodes = refl }; peer = refl; calls = refl; more = λ v threshold met. met; settled = λ settled. refl };
  reads = refl;
  sent = refl;
}

its-own : (store : LockId) (p : Knows) → IsFeed store p → IsFeed p.lock p
its-own store p f = record { seated = record { lock = refl; idle = f.seated.idle; framed = f.seated.framed; legal = f.seated.legal }; first = f.first }

-- a feed that is lent
pub just-lent : (start : Option Knows) (store : LockId) (p : Knows) → start ≡ Some p → IsFeed store p → IsLentFrom start p
just-lent start store p is f = subst (λ (o : Option Knows). IsLentFrom o p) (sym is) (record { feed = its-own store p f; place = refl; learns = learns-nothing p; goes_on = ([], sym (append-nil p.seen)) })

lent-turn : (start old new : Knows) → IsLent start old → KnowsOwn old → KnowsOwn new → HadTurn [] old new → IsLent start new
lent-turn start old new l own-old own-new t = record {
  feed = record {
    seated = record { lock = refl; idle = ap (λ (p : Knows). p.turn) t.pass; framed = t.framed; legal = t.legal };
    first = ap (λ (p : Knows). p.number) t.pass ∙ l.feed.first;
  };
  place = turn-place old new [] l.feed.seated.idle t ∙ l.place;
  learns = learns-chain as_they_are (seen start None) (seen old None) (seen new None) l.learns (turn-learns as_they_are old.lock old None (seen old None) new refl (omega arith) l.feed own-old own-new t);
  goes_on = goes-on-chain start.seen old.seen new.seen l.goes_on (turn-seen [] old new t);
}

lent-miss : (start old new : Knows) → IsLent start old → new ≡ after_miss old → IsLent start new
lent-miss start old new l is = subst (IsLent start) (sym is) (record {
  feed = record { seated = record { lock = refl; idle = l.feed.seated.idle; framed = l.feed.seated.framed; legal = l.feed.seated.legal }; first = l.feed.first };
  place = l.place;
  learns = l.learns;
  goes_on = l.goes_on;
})

polled : {A E : Type 0} (start old new : Knows) (r : Result A (Try E)) → IsLent start old → KnowsOwn old → KnowsOwn new → (IsBusy r → new ≡ after_miss old) → OnOk r (TriedTurn [] old new) → IfRefused r (λ why. TriedTurn [] old new) → IsLent start new
polled start old new (Ok a) l own-old own-new busy ok refused = lent-turn start old new l own-old own-new ok.turn
polled start old new (Err Busy) l own-old own-new busy ok refused = lent-miss start old new l (busy tt)
polled start old new (Err (Refused why)) l own-old own-new busy ok refused = lent-turn start old new l own-old own-new refused.turn

-- it is still lent behind a call that tried once
pub lent-polled : {A E : Type 0} (start : Option Knows) (old new : Knows) (r : Result A (Try E)) → IsLentFrom start old → KnowsOwn old → KnowsOwn new → (IsBusy r → new ≡ after_miss old) → OnOk r (TriedTurn [] old new) → IfRefused r (λ why. TriedTurn [] old new) → IsLentFrom start new
lent-polled None old new r l own-old own-new busy ok refused = absurd l
lent-polled (Some start) old new r l own-old own-new busy ok refused = polled start old new r l own-old own-new busy ok refused

pub lent-lock : (start : Option Knows) (store : LockId) (old new : Knows) → IsLentFrom start old → IsLentFrom start new → old.lock ≡ store → new.lock ≡ store
lent-lock None store old new l m is = absurd l
lent-lock (Some start) store old new l m is = ap (λ q. q.lock) m.place ∙ sym (ap (λ q. q.lock) l.place) ∙ is

-- the node whose feed was lent
pub lent-learns : (last : Option LastSent) (old new : Knows) → IsEarly last old → IsLent old new → OnlyLearns (node_of old last) (node_of new last)
lent-learns last old new early l = record { learns = learns-whatever None None last last old new l.learns.learns; reads = refl; sent = posted-later last old new early (ap (λ (q : Place). frame_in q.frame) l.place) l.goes_on }

-- ---- the read that it is lent to

-- what was opened is held where what was asked for is
pub read-held : {E : Type 0} (r : Result ReadNo E) (X : Frame) (seen : List Entry) (x : ℕ) (w : Threshold) → HasLeast w (val X seen x) → IfOk r (λ read. ((read_of read).var ≡ x) × ((read_of read).threshold ≡ w))
    → IfOk r (λ read. IsOpen X seen (read_of read)) → IfOk r (λ read. IsHeld X seen (read_of read))
read-held (Ok read) X seen x w has is may = record { may = may; least = subst (λ (z : ℕ × Threshold). HasLeast z.1 (val X seen z.0)) (λ i. (sym is.0 i, sym is.1 i)) has }
read-held (Err why) X seen x w has is may = tt

-- what a threshold asks for at least is shown where more is
pub least-shown : (old new : List Content) (x : ℕ) (w : Threshold) → Grows old new → HasLeast w (content_at old x) → HasLeast w (content_at new x)
least-shown old new x (AtLeast shape b) more has = more x (AtLeast shape b) has
least-shown old new x (Above shape b) more has = more x (AtLeast shape b) has
least-shown old new x (Count k) more has = tt
least-shown old new x (Added vs) more has = tt
least-shown old new x (Removed vs) more has = tt
