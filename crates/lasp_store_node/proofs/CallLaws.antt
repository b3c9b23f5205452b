-- What a feed's calls make of the node that it has seen, and of its answers.
use Rattle.std.proofs.Common.{ℕ, ◌≡◌, ◌<◌, ◌⊎◌, inl, inr, Bool, true, false, nat_lt, List, [], ◌∷◌, ◌++◌, length, Option, Some, None, Ok, Err, refl, sym, ap, subst, ◌∙◌, append-nil, arith}
use Rattle.std.specs.Option.{option_map}
use Rattle.model_states.specs.Content.{size_of, row_limit}
use Rattle.model_states.specs.Counts.{count_at}
use Rattle.model_graph.specs.Graph.{Decl, kind_at}
use Rattle.model_graph.specs.Evaluation.{content_at, first_large}
use Rattle.model_graph.specs.Lawful.{shape_of}
use Rattle.model_graph.specs.Message.{Message}
use Rattle.model_world.specs.World.{Peer, updated, delivered, extended}
use Rattle.model_journal.specs.Entry.{Act, Update, Deliver, Extend, Entry, Frame, entry}
use Rattle.model_journal.specs.Journal.{graph, vals, counts, declared}
use Rattle.model_journal.specs.Legal.{IsLegal}
use Rattle.model_journal.proofs.LegalLaws.{legal-first}
use Rattle.model_core.specs.Core.{Core, entered}
use Rattle.model_core.specs.Peer.{peer_of}
use Rattle.model_core.proofs.PeerLaws.{graph-updated, graph-delivered, peer-extended}
use Rattle.model_runs.specs.Calls.{fed, unbound}
use Rattle.model_runs.specs.Held.{IsSentTo, IsUpdate}
use Rattle.lasp_state.specs.declared.op.Op.{Op}
use Rattle.lasp_state.specs.State.{op_of, IsOpOf}
use Rattle.lasp_replica.specs.declared.refused.UpdateRefused.{UpdateRefused}
use Rattle.lasp_replica.specs.declared.refused.UpdateRefused.TheVariants as update
use Rattle.lasp_replica.specs.declared.refused.DeliverRefused.{DeliverRefused}
use Rattle.lasp_replica.specs.declared.refused.DeliverRefused.TheVariants as deliver
use Rattle.lasp_replica.specs.Replica.{update_check, or_too_many, update_refusal, IsAnswered, IsDelivered}
use Rattle.lasp_histlock.specs.Names.{LockId}
use Rattle.lasp_drive.specs.declared.node.NodeStop.{NodeStop}
use Rattle.lasp_drive.specs.Node.{MayUpdate, Updates, Delivers, TakesIn, Extends, OnlyLearns}
use Rattle.lasp_drive.specs.Reads.{as_they_are}
use Rattle.lasp_node.proofs.NodeLaws.{IsFit, next_content, update-passes, updated-ok, updated-large, not-wrong, delivered-ok, delivered-large}
use Rattle.lasp_store.specs.Turn.{Knows, HadTurn, frame_of, graph_seen, looked_at}
use Rattle.lasp_store.specs.Settled.{KnowsOwn}
use Rattle.lasp_store.proofs.SettleLaws.{turn-graph, turn-peer}
use Rattle.lasp_store.proofs.TurnLaws.{turn-frame, turn-seen}
use Rattle.lasp_node.specs.declared.node.LastSent.{LastSent}
use Rattle.lasp_store_node.specs.View.{Seen, seen, core_at, posted_at, IsEarly, node_of, node_seen, IsFeed}
use Rattle.lasp_store_node.proofs.FeedLaws.{posted-later, learns-whatever, calls-after, feed-grows, turn-learns}

-- a call of the feed was one turn, in which it added these entries
pub record HasTurned (store : LockId) (more : List Entry) (old new : Knows) : Type 0 where
  pub was : IsFeed store old
  pub knew : KnowsOwn old
  pub knows : KnowsOwn new
  pub turn : HadTurn more old new

-- the same of a node of that feed, which had sent last then
pub record HasCalled (store : LockId) (more : List Entry) (last : Option LastSent) (old : Seen) (new : Knows) : Type 0 where
  pub turned : HasTurned store more old.feed new
  pub sent : option_map (posted_at new) last ≡ option_map (posted_at old.feed) old.last

pub has-called : (store : LockId) (more : List Entry) (inside : Knows) (last : Option LastSent) (old : Seen) (new : Knows) → seen inside last ≡ old → IsEarly last inside → IsFeed store inside → KnowsOwn inside → KnowsOwn new → HadTurn more inside new → HasCalled store more last old new
has-called store more inside last old new is early was knew knows t = subst (λ (n : Seen). HasCalled store more last n new) is (record {
  turned = record { was = was; knew = knew; knows = knows; turn = t };
  sent = posted-later last inside new early (turn-frame more inside new t) (turn-seen more inside new t);
})

-- the core as the feed found it
abbrev pub core_found : Knows → Core
core_found p = core_at (frame_of p) (looked_at p)

module _ (store : LockId) (more : List Entry) (old new : Knows) (h : HasTurned store more old new) where
  same-frame : frame_of new ≡ frame_of old
  same-frame = turn-frame more old new h.turn

  seen-is : new.seen ≡ looked_at new ++ more
  seen-is = ap (λ (p : Knows). p.seen) h.turn.pass

  legal-found : IsLegal (frame_of new) (looked_at new)
  legal-found = legal-first (frame_of new) (looked_at new) more (subst (λ (l : List Entry). IsLegal (frame_of new) l) seen-is h.turn.legal)

  peer-found : peer_of (frame_of new) (looked_at new) ≡ peer_of (frame_of old) old.seen
  peer-found = turn-peer old new more h.knew h.knows h.was.first h.turn

  graph-after : graph_seen new ≡ graph_seen old ++ declared more
  graph-after = turn-graph old new more h.knew h.knows h.was.first h.turn

  number-after : new.number ≡ 0
  number-after = ap (λ (p : Knows). p.number) h.turn.pass ∙ h.was.first

  after-calls : unbound new.seen ≡ unbound old.seen ++ unbound more
  after-calls = calls-after old new more h.knew h.knows h.was.first number-after (ap (λ (p : Knows). p.own) h.turn.pass)

  -- where the entries declare nothing, it found the graph that it had seen
  graph-found : graph (frame_of new) (looked_at new ++ more) ≡ graph (frame_of new) (looked_at new) → declared more ≡ [] → graph (frame_of new) (looked_at new) ≡ graph_seen old
  graph-found same none = sym same ∙ ap (graph (frame_of new)) (sym seen-is) ∙ graph-after ∙ ap (λ (l : List Decl). graph_seen old ++ l) none ∙ append-nil (graph_seen old)

-- ---- a node after a call

pub none-learned : (store : LockId) (last : Option LastSent) (old : Seen) (new : Knows) → HasCalled store [] last old new → OnlyLearns (node_seen old) (node_of new last)
none-learned store last old new h =
    let learned = turn-learns as_they_are store old.feed None (seen old.feed None) new refl (omega arith) h.turned.was h.turned.knew h.turned.knows h.turned.turn in
    record { learns = learns-whatever None None old.last last old.feed new learned.learns; reads = refl; sent = h.sent }

pub takes-ok : (store : LockId) (last : Option LastSent) (node : Seen) (new : Knows) (a : Act) → unbound (entry 0 a ∷ []) ≡ fed a ∷ [] → declared (entry 0 a ∷ []) ≡ [] → HasCalled store (entry 0 a ∷ []) last node new
    → TakesIn {A = Unit {0}} {E = NodeStop} a (node_seen node) (Ok tt) (node_of new last)
takes-ok store last node new a free none called =
    let old = node.feed in
    let h = called.turned in
    let frame = same-frame store (entry 0 a ∷ []) old new h in
    record {
      still = record {
        graph = graph-after store (entry 0 a ∷ []) old new h ∙ ap (λ (l : List Decl). graph_seen old ++ l) none ∙ append-nil (graph_seen old);
        replica = ap (λ (X : Frame). X.replica) frame;
        nodes = ap (λ (X : Frame). X.nodes) frame;
      };
      calls = after-calls store (entry 0 a ∷ []) old new h ∙ ap (λ (l : List Entry). unbound old.seen ++ l) free;
      grew = record { more = feed-grows old new frame (turn-seen (entry 0 a ∷ []) old new h.turn) h.turn.legal; released = refl; sent = called.sent };
      refused = tt;
    }

pub takes-none : (store : LockId) (last : Option LastSent) (old : Seen) (new : Knows) (a : Act) (why : NodeStop) → HasCalled store [] last old new → TakesIn {A = Unit {0}} {E = NodeStop} a (node_seen old) (Err why) (node_of new last)
takes-none store last old new a why h = let learned = none-learned store last old new h in record { still = learned.learns.still; calls = tt; grew = tt; refused = learned }

pub extends-ok : (store : LockId) (last : Option LastSent) (node : Seen) (new : Knows) (e d : Decl) → e ≡ d → HasCalled store (entry 0 (Extend e) ∷ []) last node new → Extends d (node_seen node) (node_of new last)
extends-ok store last node new e d same called =
    let more : List Entry = entry 0 (Extend e) ∷ [] in
    let old = node.feed in
    let h = called.turned in
    let frame = same-frame store more old new h in
    record {
      node = record {
        graph = graph-after store more old new h ∙ ap (λ (c : Decl). graph_seen old ++ c ∷ []) same;
        replica = ap (λ (X : Frame). X.replica) frame;
        nodes = ap (λ (X : Frame). X.nodes) frame;
      };
      peer = ap (peer_of (frame_of new)) (seen-is store more old new h)
          ∙ peer-extended (frame_of new) (looked_at new) (legal-found store more old new h) (entry 0 (Extend e)) e refl
          ∙ (λ i. extended (frame i).nodes (same i) (peer-found store more old new h i));
      calls = after-calls store more old new h ∙ ap (λ (c : Decl). unbound old.seen ++ fed (Extend c) ∷ []) same;
      grew = record { more = feed-grows old new frame (turn-seen more old new h.turn) h.turn.legal; released = refl; sent = called.sent };
    }

-- ---- updates

-- where it may be updated, the core that the feed found may
fit-found : (store : LockId) (more : List Entry) (old new : Knows) (x : ℕ) (o : Op) → HasTurned store more old new → graph (frame_of new) (looked_at new) ≡ graph_seen old → MayUpdate (node_of old None) x o → IsFit (core_found new) x o
fit-found store more old new x o h same m =
    let frame = sym (same-frame store more old new h) in
    let peer = sym (peer-found store more old new h) in
    record {
      legal = legal-found store more old new h;
      within = subst (λ (g : List Decl). x < length g) (sym same) m.var;
      may = subst (λ (z : Frame × List Decl). IsUpdate z.0.nodes z.1 x (op_of o)) (λ i. (frame i, sym same i)) m.may;
      suits = subst (λ (z : Frame × List Decl). IsOpOf o z.0.replica (shape_of z.0.nodes (kind_at z.1 x))) (λ i. (frame i, sym same i)) m.suits_it;
      room = subst (λ (z : Frame × Peer). count_at z.1.counts z.0.replica < 100000) (λ i. (frame i, peer i)) m.room;
    }

-- the answer of an update to the core that the feed found
abbrev AnswersAt : Knows → ℕ → Op → Option UpdateRefused
AnswersAt p x o = update_refusal (frame_of p).nodes (frame_of p).replica (graph (frame_of p) (looked_at p)) (vals (frame_of p) (looked_at p)) (counts (frame_of p) (looked_at p)) x o

same-updated : (store : LockId) (more : List Entry) (old new : Knows) (x : ℕ) (o : Op) → HasTurned store more old new
    → updated (frame_of new).replica x (op_of o) (peer_of (frame_of new) (looked_at new)) ≡ updated (frame_of old).replica x (op_of o) (peer_of (frame_of old) old.seen)
same-updated store more old new x o h i = updated (same-frame store more old new h i).replica x (op_of o) (peer-found store more old new h i)

pub update-ok : (store : LockId) (old new : Knows) (x : ℕ) (o : Op) → MayUpdate (node_of old None) x o → HasTurned store (entry 0 (Update x (op_of o)) ∷ []) old new → AnswersAt new x o ≡ None
    → Updates {A = Unit {0}} (updated (frame_of old).replica x (op_of o) (peer_of (frame_of old) old.seen)) x (Ok tt) (peer_of (frame_of new) new.seen)
update-ok store old new x o m h answer =
    let e : Entry = entry 0 (Update x (op_of o)) in
    let more : List Entry = e ∷ [] in
    let fit = fit-found store more old new x o h (graph-found store more old new h (graph-updated (frame_of new) (looked_at new) e x (op_of o) refl) refl) m in
    subst (λ (z : Peer × List Entry). Updates {A = Unit {0}} z.0 x (Ok tt) (peer_of (frame_of new) z.1)) (λ i. (same-updated store more old new x o h i, sym (seen-is store more old new h) i))
    (updated-ok (core_found new) x o fit (entered e (core_found new)) 0 refl answer)

fit-refused : (store : LockId) (old new : Knows) (x : ℕ) (o : Op) → MayUpdate (node_of old None) x o → HasTurned store [] old new → IsFit (core_found new) x o
fit-refused store old new x o m h = fit-found store [] old new x o h (graph-found store [] old new h (ap (graph (frame_of new)) (append-nil (looked_at new))) refl) m

pub update-large : (store : LockId) (old new : Knows) (x : ℕ) (o : Op) (why : UpdateRefused) → MayUpdate (node_of old None) x o → HasTurned store [] old new → why ≡ update.TooManyRows → IsAnswered {A = Unit {0}} (AnswersAt new x o) (Err why)
    → row_limit < size_of (content_at (updated (frame_of old).replica x (op_of o) (peer_of (frame_of old) old.seen)).contents x)
update-large store old new x o why m h is answer =
    subst (λ (r : Peer). row_limit < size_of (content_at r.contents x)) (same-updated store [] old new x o h)
    (updated-large (core_found new) x o (fit-refused store old new x o m h) why is answer)

too-many : (b : Bool) (why : UpdateRefused) → or_too_many None b ≡ Some why → update.TooManyRows ≡ why
too-many true why e = cc
too-many false why e = absurd cc

not-checked : (check : Option UpdateRefused) (b : Bool) (why : UpdateRefused) → check ≡ None → or_too_many check b ≡ Some why → update.TooManyRows ≡ why
not-checked check b why none told = too-many b why (ap (λ (refused : Option UpdateRefused). or_too_many refused b) (sym none) ∙ told)

-- no other refusal is left
refusal-is : (store : LockId) (old new : Knows) (x : ℕ) (o : Op) (why : UpdateRefused) → MayUpdate (node_of old None) x o → HasTurned store [] old new → AnswersAt new x o ≡ Some why → update.TooManyRows ≡ why
refusal-is store old new x o why m h answer =
    let fit = fit-refused store old new x o m h in
    not-checked (update_check (frame_of new).nodes (frame_of new).replica (graph (frame_of new) (looked_at new)) (counts (frame_of new) (looked_at new)) x o)
    (nat_lt row_limit (size_of (next_content (core_found new) x (op_of o)))) why
    (update-passes (frame_of new).nodes (frame_of new).replica x (graph (frame_of new) (looked_at new)) (counts (frame_of new) (looked_at new)) o fit.within fit.may fit.suits fit.room) answer

pub update-refused : (store : LockId) (old new : Knows) (x : ℕ) (o : Op) (why : UpdateRefused) → MayUpdate (node_of old None) x o → HasTurned store [] old new → IsAnswered {A = Unit {0}} (AnswersAt new x o) (Err why) → (why ≡ update.TooManyRows) ⊎ (why ≡ update.Memory)
update-refused store old new x o update.UnknownVar m h answer = inl (sym (refusal-is store old new x o update.UnknownVar m h answer))
update-refused store old new x o update.NotASource m h answer = inl (sym (refusal-is store old new x o update.NotASource m h answer))
update-refused store old new x o update.WrongOp m h answer = inl (sym (refusal-is store old new x o update.WrongOp m h answer))
update-refused store old new x o update.UpdatesFull m h answer = inl (sym (refusal-is store old new x o update.UpdatesFull m h answer))
update-refused store old new x o update.TooManyRows m h answer = inl refl
update-refused store old new x o update.Memory m h answer = inr refl

-- ---- deliveries

same-delivered : (store : LockId) (more : List Entry) (old new : Knows) (m : Message) → HasTurned store more old new → graph (frame_of new) (looked_at new) ≡ graph_seen old
    → delivered (graph (frame_of new) (looked_at new)) m (peer_of (frame_of new) (looked_at new)) ≡ delivered (graph_seen old) m (peer_of (frame_of old) old.seen)
same-delivered store more old new m h same i = delivered (same i) m (peer-found store more old new h i)

graph-refused : (store : LockId) (old new : Knows) → HasTurned store [] old new → graph (frame_of new) (looked_at new) ≡ graph_seen old
graph-refused store old new h = graph-found store [] old new h (ap (graph (frame_of new)) (append-nil (looked_at new))) refl

pub deliver-ok : (store : LockId) (old new : Knows) (n : ℕ) (m : Message) → HasTurned store (entry 0 (Deliver n m) ∷ []) old new
    → IsDelivered {A = Unit {0}} (frame_of new).nodes (graph (frame_of new) (looked_at new)) (vals (frame_of new) (looked_at new)) m (Ok tt)
    → Delivers {A = Unit {0}} (delivered (graph_seen old) m (peer_of (frame_of old) old.seen)) (Ok tt) (peer_of (frame_of new) new.seen)
deliver-ok store old new n m h answer =
    let e : Entry = entry 0 (Deliver n m) in
    let more : List Entry = e ∷ [] in
    let same = graph-found store more old new h (graph-delivered (frame_of new) (looked_at new) e n m refl) refl in
    subst (λ (z : Peer × List Entry). Delivers {A = Unit {0}} z.0 (Ok tt) (peer_of (frame_of new) z.1)) (λ i. (same-delivered store more old new m h same i, sym (seen-is store more old new h) i))
    (delivered-ok (core_found new) (entered e (core_found new)) 0 n m (legal-found store more old new h) refl answer.1)

pub deliver-large : (store : LockId) (old new : Knows) (m : Message) (why : DeliverRefused) (x : ℕ) → HasTurned store [] old new → why ≡ deliver.TooManyRows x
    → IsDelivered {A = Unit {0}} (frame_of new).nodes (graph (frame_of new) (looked_at new)) (vals (frame_of new) (looked_at new)) m (Err why)
    → first_large 0 (delivered (graph_seen old) m (peer_of (frame_of old) old.seen)).contents ≡ Some x
deliver-large store old new m why x h is answer =
    subst (λ (r : Peer). first_large 0 r.contents ≡ Some x) (same-delivered store [] old new m h (graph-refused store old new h))
    (delivered-large (core_found new) m why x (legal-found store [] old new h) is answer)

-- a message that was sent to it is one of its graph
pub deliver-refused : (store : LockId) (old new : Knows) (m : Message) (why : DeliverRefused) → HasTurned store [] old new → IsSentTo (frame_of old).nodes (graph_seen old) m → why ≡ deliver.WrongGraph
    → IsDelivered {A = Unit {0}} (frame_of new).nodes (graph (frame_of new) (looked_at new)) (vals (frame_of new) (looked_at new)) m (Err why) → ⊥
deliver-refused store old new m why h sent is answer =
    let frame = sym (same-frame store [] old new h) in
    let same = sym (graph-refused store old new h) in
    not-wrong (frame_of new).nodes (graph (frame_of new) (looked_at new)) (vals (frame_of new) (looked_at new)) m why is
    (subst (λ (z : Frame × List Decl). IsSentTo z.0.nodes z.1 m) (λ i. (frame i, same i)) sent) answer
