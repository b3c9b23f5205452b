-- What a turn of a feed makes of the node that it has seen.
use Rattle.std.proofs.Common.{ℕ, ◌≡◌, ◌==◌, ◌<◌, Bool, true, false, not, cond, zero, suc, List, [], ◌∷◌, ◌++◌, length, Option, None, Result, Ok, Err, refl, sym, ap, subst, ◌∙◌, append-nil, arith}
use Rattle.std.specs.Prelude.{All, OnOk, OnErr, IsTrue}
use Rattle.std.specs.Option.{option_map}
use Rattle.std.proofs.lemmas.List.Elements.{All-head, All-tail}
use Rattle.model_states.specs.Content.{Content}
use Rattle.model_graph.specs.Graph.{Decl, is_source, kind_at}
use Rattle.model_graph.specs.Evaluation.{content_at}
use Rattle.model_graph.specs.Lawful.{shape_of}
use Rattle.model_world.specs.World.{Peer}
use Rattle.model_journal.specs.Entry.{Act, Update, Deliver, Bind, Extend, Entry, Frame}
use Rattle.model_journal.specs.Journal.{graph, vals}
use Rattle.model_journal.specs.Callers.{MayMake, made_by}
use Rattle.model_journal.specs.Legal.{IsLegal}
use Rattle.model_core.specs.Peer.{peer_of}
use Rattle.model_core.proofs.PeerLaws.{peer-fresh}
use Rattle.model_core.proofs.SourceLaws.{sources-source}
use Rattle.model_runs.specs.Calls.{is_bind, unbound}
use Rattle.model_runs.proofs.FedLaws.{unbound-append}
use Rattle.lasp_state.specs.declared.state.State.{State}
use Rattle.lasp_graph.specs.States.{Held, held_of}
use Rattle.lasp_core.specs.Core.{state_after}
use Rattle.lasp_histlock.specs.Names.{LockId}
use Rattle.lasp_histlock.specs.Passes.{first_pass}
use Rattle.lasp_core.specs.Listed.{GoesOn}
use Rattle.lasp_drive.specs.Node.{Learns, LearnsAnd, Holds, OnlyGrew, IsFresh}
use Rattle.lasp_drive.specs.Reads.{Reads, Grows, as_they_are}
use Rattle.lasp_store.specs.Turn.{Knows, HadTurn, frame_of, graph_seen}
use Rattle.lasp_store.specs.Settled.{KnowsOwn, HasSettled, AreBinds, IsBind, AreEvaluatedBelow, evaluation}
use Rattle.lasp_store.proofs.EvaluatedLaws.{IsKept, kept-binds, same-evaluation, evaluated-stays, all-evaluated}
use Rattle.lasp_store.proofs.SettleLaws.{turn-settles}
use Rattle.lasp_node.specs.declared.node.LastSent.{LastSent}
use Rattle.lasp_node.proofs.CallLaws.{posted-kept, grows-behind}
use Rattle.lasp_store_node.specs.View.{Seen, seen, core_at, posted_at, IsEarly, node_of, node_seen, place_of, IsFeed}

-- ---- the calls

-- who isn't the feed makes results alone
others-bind : (by : ℕ) (act : Act) → (by == 0) ≡ false → MayMake by act → is_bind act ≡ true
others-bind zero act other may = absurd (let same : true ≡ false = other in cc)
others-bind (suc by) (Update x op) other may = absurd (omega (arith, may))
others-bind (suc by) (Deliver i m) other may = absurd (omega (arith, may))
others-bind (suc by) (Bind y n) other may = refl
others-bind (suc by) (Extend d) other may = absurd (omega (arith, may))

-- so what is no result is the feed's
unbound-mine : (seen : List Entry) → All (λ e. (e.by ≡ e.by) × MayMake e.by e.act) seen → unbound seen ≡ unbound (made_by 0 seen)
unbound-mine [] may = refl
unbound-mine (e ∷ seen) may = choose (unbound-mine seen (All-tail (λ e. (e.by ≡ e.by) × MayMake e.by e.act) e seen may)) (e.by == 0) refl where
  choose : unbound seen ≡ unbound (made_by 0 seen) → (b : Bool) → (e.by == 0) ≡ b → unbound (e ∷ seen) ≡ unbound (made_by 0 (e ∷ seen))
  choose rest true own =
      ap (λ (l : List Entry). cond (not (is_bind e.act)) (e ∷ l) l) rest
      ∙ sym (ap (λ (b : Bool). unbound (cond b (e ∷ made_by 0 seen) (made_by 0 seen))) own)
  choose rest false other =
      ap (λ (b : Bool). cond (not b) (e ∷ unbound seen) (unbound seen)) (others-bind e.by e.act other (All-head (λ e. (e.by ≡ e.by) × MayMake e.by e.act) e seen may).1)
      ∙ rest
      ∙ sym (ap (λ (b : Bool). unbound (cond b (e ∷ made_by 0 seen) (made_by 0 seen))) other)

calls-own : (p : Knows) → KnowsOwn p → p.number ≡ 0 → unbound p.seen ≡ unbound p.own
calls-own p own first = unbound-mine p.seen own.allowed ∙ ap unbound (ap (λ (n : ℕ). made_by n p.seen) (sym first) ∙ sym own.own)

-- the feed's own entries of a turn tell the calls
pub calls-after : (old new : Knows) (more : List Entry) → KnowsOwn old → KnowsOwn new → old.number ≡ 0 → new.number ≡ 0 → new.own ≡ old.own ++ more → unbound new.seen ≡ unbound old.seen ++ unbound more
calls-after old new more own-old own-new first same grown =
    calls-own new own-new same ∙ ap unbound grown ∙ unbound-append old.own more ∙ ap (λ (l : List Entry). l ++ unbound more) (sym (calls-own old own-old first))

-- ---- what is shown

pub feed-grows : (old new : Knows) → frame_of new ≡ frame_of old → GoesOn old.seen new.seen → IsLegal (frame_of new) new.seen → Grows (vals (frame_of old) old.seen) (vals (frame_of new) new.seen)
feed-grows old new frame on legal =
    subst (λ (z : Frame × List Entry). Grows (vals (frame_of old) old.seen) (vals z.0 z.1)) (λ i. (sym frame i, sym on.1 i))
    (grows-behind (frame_of old) old.seen on.0 (subst (λ (z : Frame × List Entry). IsLegal z.0 z.1) (λ i. (frame i, on.1 i)) legal))

-- results add nothing to what is as plain evaluation gives it
binds-add-nothing : (X : Frame) (h more : List Entry) → IsLegal X (h ++ more) → AreBinds more → vals X h ≡ evaluation X h → vals X (h ++ more) ≡ vals X h
binds-add-nothing X h more legal are is = all-evaluated X (h ++ more) legal below ∙ same-evaluation X h (h ++ more) kept ∙ sym is where
  kept : IsKept X h (h ++ more)
  kept = kept-binds X h more legal are

  below : AreEvaluatedBelow X (h ++ more) (length (graph X (h ++ more)))
  below = subst (AreEvaluatedBelow X (h ++ more)) (sym (ap (λ (g : List Decl). length g) kept.graph_is))
      (evaluated-stays X h more (length (graph X h)) legal are (omega arith) (λ y low. ap (λ (ss : List Content). content_at ss y) is))

-- ---- when it last sent

-- what it held then it has held, also where what it has seen goes on
pub posted-later : (last : Option LastSent) (old new : Knows) → IsEarly last old → frame_of new ≡ frame_of old → GoesOn old.seen new.seen → option_map (posted_at new) last ≡ option_map (posted_at old) last
posted-later last old new early frame on = posted-kept last (core_at (frame_of old) old.seen) (core_at (frame_of new) new.seen) on.0 early frame on.1

-- ---- a node that was asked

-- what it learns it learns whatever it last sent
pub learns-whatever : (sent told was is : Option LastSent) (old new : Knows) → Learns (node_of old sent) (node_of new told) → Learns (node_of old was) (node_of new is)
learns-whatever sent told was is old new l =
    record { still = record { graph = l.still.graph; replica = l.still.replica; nodes = l.still.nodes }; peer = l.peer; calls = l.calls; more = l.more; settled = l.settled }

settled-learns : (change : List Content → Reads → Reads) (last : Option LastSent) (old new : Knows) → IsEarly last old → KnowsOwn old → KnowsOwn new → old.number ≡ 0 → IsLegal (frame_of new) new.seen → HasSettled old new → unbound new.own ≡ unbound old.own
    → LearnsAnd change (node_of old last) (node_of new last)
settled-learns change last old new early own-old own-new first legal s same = record {
  learns = record {
    still = record { graph = (λ i. graph (frame i) (on i)) ∙ kept.graph_is; replica = ap (λ (X : Frame). X.replica) frame; nodes = ap (λ (X : Frame). X.nodes) frame };
    peer = (λ i. peer_of (frame i) (on i)) ∙ kept.peer;
    calls = calls-own new own-new (ap (λ (p : Knows). p.number) s.pass ∙ first) ∙ same ∙ sym (calls-own old own-old first);
    more = feed-grows old new frame (s.seen.0, on) legal;
    settled = λ settled. (λ i. vals (frame i) (on i)) ∙ binds-add-nothing (frame_of old) old.seen s.seen.0 there s.seen.2 settled;
  };
  reads = refl;
  sent = posted-later last old new early frame (s.seen.0, on);
} where
  frame : frame_of new ≡ frame_of old
  frame = ap (λ (p : Knows). frame_of p) s.pass

  on : new.seen ≡ old.seen ++ s.seen.0
  on = s.seen.1

  there : IsLegal (frame_of old) (old.seen ++ s.seen.0)
  there = subst (λ (z : Frame × List Entry). IsLegal z.0 z.1) (λ i. (frame i, on i)) legal

  kept : IsKept (frame_of old) old.seen (old.seen ++ s.seen.0)
  kept = kept-binds (frame_of old) old.seen s.seen.0 there s.seen.2

-- a turn of the feed that adds nothing
pub turn-learns : (change : List Content → Reads → Reads) (store : LockId) (inside : Knows) (last : Option LastSent) (old : Seen) (new : Knows) → seen inside last ≡ old → IsEarly last inside → IsFeed store inside → KnowsOwn inside → KnowsOwn new → HadTurn [] inside new
    → LearnsAnd change (node_seen old) (node_of new last)
turn-learns change store old last node new is early f own-old own-new t = subst (λ (n : Seen). LearnsAnd change (node_seen n) (node_of new last)) is (
    settled-learns change last old new early own-old own-new f.first t.legal (turn-settles old new [] own-old own-new f.first f.seated.idle tt t)
    (ap unbound (ap (λ (p : Knows). p.own) t.pass ∙ append-nil old.own)))

pub where-ok : {A E P : Type 0} (r : Result A E) → P → OnOk r P
where-ok (Ok a) p = p
where-ok (Err e) p = tt

pub where-err : {A E P : Type 0} (r : Result A E) → P → OnErr r P
where-err (Ok a) p = tt
where-err (Err e) p = p

-- the state of a source is what the node's replica holds of it
pub held-source : (old new : Seen) (x : ℕ) (s : State) → Learns (node_seen old) (node_seen new) → x < length (graph_seen old.feed) → IsTrue (is_source (kind_at (graph_seen old.feed) x)) → held_of s ≡ state_after (frame_of new.feed) new.feed.seen x → Holds (node_seen old) x s
held-source old new x s l low source is = record {
  content = ap (λ (h : Held). h.content) is ∙ sym (sources-source (graph_seen new.feed) (vals (frame_of new.feed) new.feed.seen) x there kind) ∙ ap (λ (p : Peer). content_at p.contents x) l.peer;
  shape = ap (λ (h : Held). h.shape) is ∙ (λ i. shape_of (l.still.nodes i) (kind_at (l.still.graph i) x));
} where
  there : x < length (graph_seen new.feed)
  there = subst (λ (g : List Decl). x < length g) (sym l.still.graph) low

  kind : IsTrue (is_source (kind_at (graph_seen new.feed) x))
  kind = subst (λ (g : List Decl). IsTrue (is_source (kind_at g x))) (sym l.still.graph) source

-- ---- settling

binds-unbound : (more : List Entry) → AreBinds more → unbound more ≡ []
binds-unbound [] are = refl
binds-unbound (e ∷ more) are = ap (λ (b : Bool). cond (not b) (e ∷ unbound more) (unbound more)) (is-bind e.act are.0) ∙ binds-unbound more are.1 where
  is-bind : (a : Act) → IsBind a → is_bind a ≡ true
  is-bind (Update x op) is = absurd is
  is-bind (Deliver i m) is = absurd is
  is-bind (Bind y n) is = refl
  is-bind (Extend d) is = absurd is

pub settled-grew : (last : Option LastSent) (old new : Knows) → IsEarly last old → KnowsOwn old → KnowsOwn new → old.number ≡ 0 → IsLegal (frame_of new) new.seen → HasSettled old new → OnlyGrew (node_of old last) (node_of new last)
settled-grew last old new early own-old own-new first legal s =
    let learned = settled-learns as_they_are last old new early own-old own-new first legal s (ap unbound s.own.1 ∙ unbound-append old.own s.own.0 ∙ ap (λ (l : List Entry). unbound old.own ++ l) (binds-unbound s.own.0 s.own.2) ∙ append-nil (unbound old.own)) in
    record { still = learned.learns.still; peer = learned.learns.peer; calls = learned.learns.calls; grew = record { more = learned.learns.more; released = refl; sent = learned.sent } }

-- ---- where it is

pub turn-place : (old new : Knows) (more : List Entry) → old.turn ≡ false → HadTurn more old new → place_of new ≡ place_of old
turn-place old new more idle t = ap place_of t.pass ∙ (λ i. record (place_of old) { turn = sym idle i })

-- ---- nothing has happened

pub fresh-node : (lock : LockId) (X : Frame) (p : Knows) → p ≡ first_pass lock X → IsFresh X.opening X.nodes X.replica (node_of p None)
fresh-node lock X p is = subst (λ (q : Knows). IsFresh X.opening X.nodes X.replica (node_of q None)) (sym is) (record {
  node = record { graph = refl; replica = refl; nodes = refl };
  peer = peer-fresh X;
  calls = refl;
  reads = tt;
  sent = refl;
})
