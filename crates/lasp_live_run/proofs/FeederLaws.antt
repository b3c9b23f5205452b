-- What the calls of a store make of the journal that its feed has seen.
use Rattle.std.proofs.Common.{◌≡◌, ℕ, ◌+◌, ◌≤◌, List, [], ◌∷◌, ◌++◌, length, cond, not, Option, Result, Ok, Err, None, refl, sym, ap, subst, ◌∙◌, append-nil, arith}
use Rattle.std.specs.Prelude.{All, OnErr, OnOk}
use Rattle.std.proofs.lemmas.List.{length-append}
use Rattle.std.proofs.lemmas.List.Elements.{All-head, All-tail}
use Rattle.model_journal.specs.Callers.{AreMadeByTheirCallers, MayMake, made_by}
use Rattle.model_journal.specs.Entry.{Act, Update, Deliver, Bind, Extend, Entry, Frame, entry}
use Rattle.model_graph.specs.Message.{Message}
use Rattle.model_journal.specs.Journal.{counts, declared, declared_by, graph, vals}
use Rattle.model_live.proofs.EndLaws.{result-of}
use Rattle.model_live.proofs.StoryLaws.{graph-stays}
use Rattle.model_readings.specs.Lawful.{FitsAll}
use Rattle.model_functions.specs.Library.{Library}
use Rattle.model_runs.specs.Calls.{is_bind, unbound}
use Rattle.model_runs.proofs.FedLaws.{unbound-append}
use Rattle.lasp_replica.specs.Replica.{IsAnswered, IsDelivered, update_refusal}
use Rattle.lasp_replica.specs.declared.refused.DeliverRefused.{DeliverRefused}
use Rattle.lasp_replica.specs.declared.refused.UpdateRefused.{UpdateRefused}
use Rattle.lasp_state.specs.State.{op_of}
use Rattle.lasp_state.specs.declared.op.Op.{Op}
use Rattle.lasp_core.specs.declared.watched.Settle.{Settle}
use Rattle.lasp_core.specs.declared.watched.Settle.TheVariants as settle
use Rattle.model_graph.specs.Evaluation.{first_large}
use Rattle.lasp_store.specs.Passed.{AreOnce, HasPassed, IsNeeded}
use Rattle.lasp_store.specs.Settled as store
use Rattle.lasp_store.specs.Settled.{AreBinds, IsBind, HasSettled, KnowsOwn, evaluation}
use Rattle.lasp_histlock.specs.Names.{LockId}
use Rattle.lasp_store.specs.Turn.{Knows, HadTurn, IsSeated, frame_of, graph_at, graph_seen, looked_at, vals_at}
use Rattle.lasp_store_node.proofs.FeedLaws.{calls-after}
use Rattle.lasp_store_node.specs.View.{IsFeed, place_of}
use Rattle.lasp_live.specs.Turns.{Adds, AreOwnResults, Delivers, Feeds, IsFoundBehind, IsOwnResult, Learns, PassesOnce, Settles, Updates}

-- ---- what was made by whom

pub made-all : (entries : List Entry) → All (λ e. (e.by ≡ e.by) × MayMake e.by e.act) entries → AreMadeByTheirCallers entries
made-all [] all = tt
made-all (e ∷ entries) all =
    ((All-head (λ e. (e.by ≡ e.by) × MayMake e.by e.act) e entries all).1, made-all entries (All-tail (λ e. (e.by ≡ e.by) × MayMake e.by e.act) e entries all))

-- ---- turns

none-of : (l : List Entry) → length l ≡ 0 → l ≡ []
none-of [] e = refl
none-of (x ∷ l) e = absurd (omega (arith, e))

-- what a turn found goes on what the feed had seen by results alone
found-learned : (more : List Entry) (old new : Knows) → KnowsOwn old → KnowsOwn new → old.number ≡ 0 → HadTurn more old new → Learns old.seen (looked_at new)
found-learned more old new own-old own-new first t = record { more = t.goes_on.0; is = t.goes_on.1; results = none-of (unbound t.goes_on.0) none } where
  calls : unbound new.seen ≡ unbound old.seen ++ unbound more
  calls = calls-after old new more own-old own-new first (ap (λ (p : Knows). p.number) t.pass ∙ first) (ap (λ (p : Knows). p.own) t.pass)

  whole : unbound new.seen ≡ (unbound old.seen ++ unbound t.goes_on.0) ++ unbound more
  whole =
      ap unbound (ap (λ (p : Knows). p.seen) t.pass) ∙ unbound-append (looked_at new) more
      ∙ ap (λ (l : List Entry). l ++ unbound more) (ap unbound t.goes_on.1 ∙ unbound-append old.seen t.goes_on.0)

  none : length (unbound t.goes_on.0) ≡ 0
  none =
      let both = ap (λ (l : List Entry). length l) (sym calls ∙ whole) in
      omega (arith, both, length-append (unbound old.seen) (unbound more), length-append (unbound old.seen ++ unbound t.goes_on.0) (unbound more), length-append (unbound old.seen) (unbound t.goes_on.0))

pub turn-learned : (old new : Knows) → KnowsOwn old → KnowsOwn new → old.number ≡ 0 → HadTurn [] old new → Learns old.seen new.seen
turn-learned old new own-old own-new first t =
    subst (Learns old.seen) (sym (append-nil (looked_at new)) ∙ sym (ap (λ (p : Knows). p.seen) t.pass)) (found-learned [] old new own-old own-new first t)

turn-feeds : (a : Act) (old new : Knows) → KnowsOwn old → KnowsOwn new → old.number ≡ 0 → HadTurn (entry 0 a ∷ []) old new → Feeds a (looked_at new) old.seen new.seen
turn-feeds a old new own-old own-new first t = record { learned = found-learned (entry 0 a ∷ []) old new own-old own-new first t; is = ap (λ (p : Knows). p.seen) t.pass }

pub turn-frame : (more : List Entry) (old new : Knows) → HadTurn more old new → frame_of new ≡ frame_of old
turn-frame more old new t = ap frame_of t.pass

-- ---- calls

-- why an update of what the feed found is refused, if it is
abbrev refusal : Frame → List Entry → ℕ → Op → Option UpdateRefused
refusal X found x o = update_refusal X.nodes X.replica (graph X found) (vals X found) (counts X found) x o

pub update-done : {A : Type 0} (x : ℕ) (o : Op) (old new : Knows) (a : A) → KnowsOwn old → KnowsOwn new → old.number ≡ 0 → HadTurn (entry 0 (Update x (op_of o)) ∷ []) old new
    → refusal (frame_of new) (looked_at new) x o ≡ None → Updates {A = A} (frame_of old) x o old.seen (Ok a) new.seen
update-done x o old new a own-old own-new first t answer = (
  looked_at new,
  turn-feeds (Update x (op_of o)) old new own-old own-new first t,
  subst (λ (X : Frame). refusal X (looked_at new) x o ≡ None) (turn-frame (entry 0 (Update x (op_of o)) ∷ []) old new t) answer,
)

-- where it adds nothing, the feed has seen what it found
seen-found : (old new : Knows) → HadTurn [] old new → looked_at new ≡ new.seen
seen-found old new t = sym (append-nil (looked_at new)) ∙ sym (ap (λ (p : Knows). p.seen) t.pass)

pub update-not : (A : Type 0) (x : ℕ) (o : Op) (old new : Knows) (why : UpdateRefused) → KnowsOwn old → KnowsOwn new → old.number ≡ 0 → HadTurn [] old new
    → IsAnswered {A = A} (refusal (frame_of new) (looked_at new) x o) (Err why) → Updates {A = A} (frame_of old) x o old.seen (Err why) new.seen
update-not A x o old new why own-old own-new first t answer = (
  turn-learned old new own-old own-new first t,
  subst (λ (z : Frame × List Entry). IsAnswered {A = A} (refusal z.0 z.1 x o) (Err why)) (λ i. (turn-frame [] old new t i, seen-found old new t i)) answer,
)

pub deliver-done : {A : Type 0} (n : ℕ) (m : Message) (old new : Knows) (a : A) → KnowsOwn old → KnowsOwn new → old.number ≡ 0 → HadTurn (entry 0 (Deliver n m) ∷ []) old new
    → IsDelivered {A = A} (frame_of new).nodes (graph_at new) (vals_at new) m (Ok a) → Delivers {A = A} (frame_of old) n m old.seen (Ok a) new.seen
deliver-done {A} n m old new a own-old own-new first t answer = (
  looked_at new,
  turn-feeds (Deliver n m) old new own-old own-new first t,
  subst (λ (X : Frame). IsDelivered {A = A} X.nodes (graph X (looked_at new)) (vals X (looked_at new)) m (Ok a)) (turn-frame (entry 0 (Deliver n m) ∷ []) old new t) answer,
)

pub deliver-not : (A : Type 0) (n : ℕ) (m : Message) (old new : Knows) (why : DeliverRefused) → KnowsOwn old → KnowsOwn new → old.number ≡ 0 → HadTurn [] old new
    → IsDelivered {A = A} (frame_of new).nodes (graph_at new) (vals_at new) m (Err why) → Delivers {A = A} (frame_of old) n m old.seen (Err why) new.seen
deliver-not A n m old new why own-old own-new first t answer = (
  turn-learned old new own-old own-new first t,
  subst (λ (z : Frame × List Entry). IsDelivered {A = A} z.0.nodes (graph z.0 z.1) (vals z.0 z.1) m (Err why)) (λ i. (turn-frame [] old new t i, seen-found old new t i)) answer,
)

-- ---- settling

pub binds-results : (more : List Entry) → AreBinds more → unbound more ≡ []
binds-results [] are = refl
binds-results (e ∷ more) are = choose e.act refl (binds-results more are.1) where
  choose : (a : Act) → e.act ≡ a → unbound more ≡ [] → unbound (e ∷ more) ≡ []
  choose (Update x op) is rest = absurd (subst IsBind is are.0)
  choose (Deliver i m) is rest = absurd (subst IsBind is are.0)
  choose (Bind y n) is rest = ap (λ (a : Act). cond (not (is_bind a)) (e ∷ unbound more) (unbound more)) is ∙ rest
  choose (Extend d) is rest = absurd (subst IsBind is are.0)

pub settled-learned : (old new : Knows) → HasSettled old new → Learns old.seen new.seen
settled-learned old new s = record { more = s.seen.0; is = s.seen.1; results = binds-results s.seen.0 s.seen.2 }

-- ---- whatever a call answered

pub updates-by : {A : Type 0} (r : Result A UpdateRefused) (x : ℕ) (o : Op) (old new : Knows) → KnowsOwn old → KnowsOwn new → old.number ≡ 0 → OnOk r (HadTurn (entry 0 (Update x (op_of o)) ∷ []) old new) → OnErr r (HadTurn [] old new)
    → IsAnswered (refusal (frame_of new) (looked_at new) x o) r → Updates (frame_of old) x o old.seen r new.seen
updates-by (Ok a) x o old new own-old own-new first ok err answer = update-done x o old new a own-old own-new first ok answer
updates-by {A} (Err why) x o old new own-old own-new first ok err answer = update-not A x o old new why own-old own-new first err answer

pub delivers-by : {A : Type 0} (r : Result A DeliverRefused) (n : ℕ) (m : Message) (old new : Knows) → KnowsOwn old → KnowsOwn new → old.number ≡ 0 → OnOk r (HadTurn (entry 0 (Deliver n m) ∷ []) old new) → OnErr r (HadTurn [] old new)
    → IsDelivered (frame_of new).nodes (graph_at new) (vals_at new) m r → Delivers (frame_of old) n m old.seen r new.seen
delivers-by (Ok a) n m old new own-old own-new first ok err answer = deliver-done n m old new a own-old own-new first ok answer
delivers-by {A} (Err why) n m old new own-old own-new first ok err answer = deliver-not A n m old new why own-old own-new first err answer

-- ---- what the feed's own entries are, and how many it was told of

adds-turn : (more : List Entry) (old new : Knows) → HadTurn more old new → new.own ≡ old.own ++ more
adds-turn more old new t = ap (λ (p : Knows). p.own) t.pass

pub own-stays : (old new : Knows) → HadTurn [] old new → new.own ≡ old.own
own-stays old new t = adds-turn [] old new t ∙ append-nil old.own

pub own-by : {A E : Type 0} (a : Act) (r : Result A E) (old new : Knows) → OnOk r (HadTurn (entry 0 a ∷ []) old new) → OnErr r (HadTurn [] old new) → Adds a old.own r new.own
own-by a (Ok done) old new ok err = adds-turn (entry 0 a ∷ []) old new ok
own-by a (Err why) old new ok err = own-stays old new err

pub told-by : {A E : Type 0} (more : List Entry) (r : Result A E) (old new : Knows) → OnOk r (HadTurn more old new) → OnErr r (HadTurn [] old new) → old.told ≤ new.told
told-by more (Ok done) old new ok err = ok.told
told-by more (Err why) old new ok err = err.told

-- a turn found so many entries, and those that it added stand behind them
found-turn : (more : List Entry) (old new : Knows) → HadTurn more old new → length new.seen ≡ new.told + length more
found-turn more old new t =
    let seen : length new.seen ≡ length (looked_at new ++ more) = ap (λ (p : Knows). length p.seen) t.pass in
    let told : new.told ≡ length (looked_at new) = ap (λ (p : Knows). p.told) t.pass in
    omega (arith, seen, told, length-append (looked_at new) more)

pub found-all : (old new : Knows) → HadTurn [] old new → new.told ≡ length new.seen
found-all old new t = omega (arith, found-turn [] old new t)

pub found-by : {A E : Type 0} (a : Act) (r : Result A E) (old new : Knows) → OnOk r (HadTurn (entry 0 a ∷ []) old new) → OnErr r (HadTurn [] old new) → IsFoundBehind r new.told (length new.seen)
found-by a (Ok done) old new ok err = found-turn (entry 0 a ∷ []) old new ok
found-by a (Err why) old new ok err = omega (arith, found-turn [] old new err)

own-result : (X : Frame) (seen : List Entry) (from to : ℕ) (e : Entry) → IsNeeded X seen from to e → IsOwnResult X seen from to e
own-result X seen from to e n = record { var = n.var; found = n.at; begins = n.begins; is = n.result; unclean = n.unclean; low = n.low; high = n.high }

own-results : (X : Frame) (seen : List Entry) (from to : ℕ) (mine : List Entry) → AreOnce X seen from to mine → AreOwnResults X seen from to mine
unfolding own-result
own-results X seen from to [] once = tt
own-results X seen from to (e ∷ mine) once = (own-result X seen from to e once.0, own-results X seen (once.0.var + 1) to mine once.1)

pub passed-own : (turns : ℕ) (old new : Knows) → HasPassed 0 (length (graph_seen new)) turns old new → PassesOnce (frame_of new) new.seen old.own new.own
passed-own turns old new p = record { mine = p.mine; is = p.own; once = own-results (frame_of new) new.seen 0 (length (graph_seen new)) p.mine p.once }

pub own-made : (p : Knows) → p.number ≡ 0 → KnowsOwn p → p.own ≡ made_by 0 p.seen
own-made p first knows = knows.own ∙ ap (λ (n : ℕ). made_by n p.seen) first

-- ---- what a call leaves of the feed

-- the feed of the store, in no turn, for whose graph the library has all functions
pub record IsHeld (lib : Library) (store : LockId) (p : Knows) : Type 0 where
  pub feed : IsFeed store p
  pub fits : FitsAll lib (graph_seen p)

-- it stays that, at its place and of its replica
pub record Stays (lib : Library) (store : LockId) (old new : Knows) : Type 0 where
  pub held : IsHeld lib store new
  pub place : place_of new ≡ place_of old
  pub frame : frame_of new ≡ frame_of old

pub results-declare : (more : List Entry) → unbound more ≡ [] → declared more ≡ []
results-declare [] results = refl
results-declare (e ∷ more) results = let b = result-of e more results in ap (λ (a : Act). declared_by a ++ declared more) b.2 ∙ results-declare more b.3

turn-graph : (more : List Entry) (old new : Knows) → declared more ≡ [] → KnowsOwn old → KnowsOwn new → old.number ≡ 0 → HadTurn more old new → graph_seen new ≡ graph_seen old
turn-graph more old new none own-old own-new first t =
    let X : Frame = frame_of old in
    let l : Learns old.seen (looked_at new) = found-learned more old new own-old own-new first t in
    (λ i. graph (turn-frame more old new t i) (t.pass i).seen)
    ∙ graph-stays X (looked_at new) more none
    ∙ ap (graph X) l.is
    ∙ graph-stays X old.seen l.more (results-declare l.more l.results)

pub turn-stays : (lib : Library) (store : LockId) (more : List Entry) (old new : Knows) → declared more ≡ [] → KnowsOwn old → KnowsOwn new → IsHeld lib store old → HadTurn more old new → Stays lib store old new
turn-stays lib store more old new none own-old own-new was t = record {
  held = record {
    feed = record {
      seated = record { lock = ap (λ (p : Knows). p.lock) t.pass ∙ was.feed.seated.lock; idle = ap (λ (p : Knows). p.turn) t.pass; framed = t.framed; legal = t.legal };
      first = ap (λ (p : Knows). p.number) t.pass ∙ was.feed.first;
    };
    fits = subst (FitsAll lib) (sym (turn-graph more old new none own-old own-new was.feed.first t)) was.fits;
  };
  place = ap place_of t.pass ∙ (λ i. record { lock = old.lock; number = old.number; frame = old.frame; turn = sym was.feed.seated.idle i; made = old.made; back = old.back });
  frame = turn-frame more old new t;
}

-- after a call that added an entry, or none where it was refused
pub call-stays : {A E : Type 0} (lib : Library) (store : LockId) (more : List Entry) (r : Result A E) (old new : Knows) → declared more ≡ [] → KnowsOwn old → KnowsOwn new → IsHeld lib store old → OnOk r (HadTurn more old new) → OnErr r (HadTurn [] old new) → Stays lib store old new
call-stays lib store more (Ok a) old new none own-old own-new was ok err = turn-stays lib store more old new none own-old own-new was ok
call-stays lib store more (Err e) old new none own-old own-new was ok err = turn-stays lib store [] old new refl own-old own-new was err

pub settled-stays : (lib : Library) (store : LockId) (old new : Knows) → IsHeld lib store old → IsSeated store new → graph_seen new ≡ graph_seen old → HasSettled old new → Stays lib store old new
settled-stays lib store old new was seated same s = record {
  held = record { feed = record { seated = seated; first = ap (λ (p : Knows). p.number) s.pass ∙ was.feed.first }; fits = subst (FitsAll lib) (sym same) was.fits };
  place = ap place_of s.pass;
  frame = ap frame_of s.pass;
}

-- what settling tells
pub settles-by : (r : Result ℕ Settle) (X : Frame) (seen : List Entry) → OnOk r (vals X seen ≡ evaluation X seen) → store.Settles (first_large 0 (evaluation X seen)) r → Settles X seen r
settles-by (Ok n) X seen evaluated done = (evaluated, done)
settles-by (Err (settle.TooLarge x)) X seen evaluated done = done
settles-by (Err settle.Memory) X seen evaluated done = tt
