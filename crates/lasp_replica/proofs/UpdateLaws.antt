-- What an update brings, and what it leaves of a replica.
use Rattle.std.proofs.Common.{ℕ, pos, ◌≡◌, ◌+◌, ◌<◌, ◌≤◌, ◌==◌, nat_lt, nat_le, Bool, true, false, not, if◌then◌else◌, IsTrue, IsFalse, List, [], ◌∷◌, ◌++◌, length, map, slice_get, slice_set, Option, Some, None, Result, Ok, Err, OnErr, refl, sym, ap, subst, ◌∙◌, arith}
use Rattle.std.proofs.lemmas.Bool.Decides.{nat_tests}
use Rattle.std.proofs.lemmas.List.{length-map, get_or_default, map-set, map-append}
use Rattle.std.proofs.lemmas.Option.{get_or_from_slice_get}
use Rattle.std.specs.Prelude.{◌↔◌, get_or, is_ok, IsOk, vec_len, vec_capacity}
use Rattle.std.specs.Option.{option_map}
use Rattle.std.specs.Arc.{arc_value}
use Rattle.model_states.specs.Counts.{count_at}
use Rattle.model_states.specs.Content.{Content, least, join_contents, size_of, row_limit, IsContentAtMost, IsOrdered}
use Rattle.model_states.specs.Threshold.{Shape, is_shape, set, grow, counter, register, fold}
use Rattle.model_states.specs.Update as plain
use Rattle.model_graph.specs.Graph.{Decl, Kind, OrSet, GSet, Counter, MaxReg, Union, Product, Intersection, Map, Filter, Fold, is_set, is_source, kind_at}
use Rattle.model_graph.specs.Evaluation.{content_at}
use Rattle.model_graph.specs.Lawful.{shape_of}
use Rattle.model_graph.proofs.LeastLaws.{no-fold}
use Rattle.model_graph.proofs.PlaceLaws.{at-map, at-set, set-length}
use Rattle.model_wire.specs.Lawful.{IsSource}
use Rattle.model_runs.specs.Held.{IsHeld, IsUpdate}
use Rattle.model_core.specs.Peer.{peer_of}
use Rattle.model_core.proofs.LegalLaws.{legal-update}
use Rattle.model_core.proofs.HeldLaws.{held-update}
use Rattle.model_core.proofs.PeerLaws.{graph-updated}
use Rattle.model_journal.specs.Entry as model
use Rattle.model_journal.specs.Entry.{Frame}
use Rattle.model_journal.specs.Journal as journal
use Rattle.model_journal.specs.Journal.{val}
use Rattle.model_journal.specs.Legal.{IsLegal}
use Rattle.lasp_replica.specs.Parts.{Parts, IsKept, history_at, news_of, AreRowsOf}
use Rattle.lasp_replica.proofs.RowsLaws.{ready-rows}
use Rattle.lasp_replica.proofs.PartLaws.{held-val}
use Rattle.lasp_replica.proofs.OneLaws.{kept-updated-still, kept-updated-grown}
use Rattle.lasp_state.specs.declared.state.State.{State}
use Rattle.lasp_state.specs.declared.state.State.TheVariants as variant
use Rattle.lasp_state.specs.declared.op.Op.{Op}
use Rattle.lasp_state.specs.declared.op.Op.TheVariants as op
use Rattle.lasp_state.specs.State as state
use Rattle.lasp_state.specs.State.{op_of, content_of, IsOpOf}
use Rattle.lasp_graph.specs.States.{Held, held_of, held_at, contents_of, grown}
use Rattle.lasp_wire.specs.Sent as wire
use Rattle.lasp_replica.specs.History as history
use Rattle.lasp_replica.specs.History.{History}
use Rattle.lasp_replica.specs.Kept.{Kept}
use Rattle.lasp_replica.specs.Replica.{frame_of, entries_of, parts_of, busy_of, told, seen_process as seen, base_of, jobs_of, IsReplica, IsSmall, Goes, Stays, shape_for, is_for, update_check, update_refusal, or_too_many, no_kept, kept_at}
use Rattle.lasp_replica.specs.Update.{IsInFormat, IsGain, IsPrepared, recorded}
use Rattle.lasp_replica.specs.Entries.{entry_of}
use Rattle.lasp_replica.specs.declared.entry.Entry.{Entry}
use Rattle.lasp_replica.specs.declared.entry.Act.TheVariants as act
use Rattle.lasp_replica.specs.declared.process.Process.{Process}
use Rattle.lasp_replica.specs.declared.replica.Replica.{Replica}
use Rattle.lasp_replica.specs.declared.refused.UpdateRefused.{UpdateRefused}
use Rattle.lasp_replica.specs.declared.refused.UpdateRefused.TheVariants as update
use Rattle.lasp_replica.proofs.KeptLaws.{where-ok}
use Rattle.lasp_replica.proofs.ReplicaLaws.{frame-same, replica-kept}
use Rattle.lasp_replica.proofs.SuitLaws.{suited-same, suited-more}
use Rattle.lasp_replica.proofs.TakenLaws.{told-set}

-- ---- kinds and shapes

-- the kinds whose variables are sets
pub set-kind : (nodes : ℕ) (k : Kind) → is_set k ≡ is_shape set (shape_of nodes k)
set-kind nodes OrSet = refl
set-kind nodes GSet = refl
set-kind nodes Counter = refl
set-kind nodes MaxReg = refl
set-kind nodes (Union x y) = refl
set-kind nodes (Product x y) = refl
set-kind nodes (Intersection x y) = refl
set-kind nodes (Map x place ops) = refl
set-kind nodes (Filter x place ops) = refl
set-kind nodes (Fold x op place lift) = refl

pub ruleset kinds = (set-kind)

shape-exact : (s t : Shape) → is_shape s t ≡ true → s ≡ t
shape-exact set set e = refl
shape-exact set grow e = absurd (let p : false ≡ true = e in cc)
shape-exact set (counter m) e = absurd (let p : false ≡ true = e in cc)
shape-exact set register e = absurd (let p : false ≡ true = e in cc)
shape-exact set fold e = absurd (let p : false ≡ true = e in cc)
shape-exact grow set e = absurd (let p : false ≡ true = e in cc)
shape-exact grow grow e = refl
shape-exact grow (counter m) e = absurd (let p : false ≡ true = e in cc)
shape-exact grow register e = absurd (let p : false ≡ true = e in cc)
shape-exact grow fold e = absurd (let p : false ≡ true = e in cc)
shape-exact (counter n) set e = absurd (let p : false ≡ true = e in cc)
shape-exact (counter n) grow e = absurd (let p : false ≡ true = e in cc)
shape-exact (counter n) (counter m) e = let p : (n == m) ≡ true = e in ap (λ (i : ℕ). counter i) (let q : n ≡ m = grind (arith, nat_tests, p) in q)
shape-exact (counter n) register e = absurd (let p : false ≡ true = e in cc)
shape-exact (counter n) fold e = absurd (let p : false ≡ true = e in cc)
shape-exact register set e = absurd (let p : false ≡ true = e in cc)
shape-exact register grow e = absurd (let p : false ≡ true = e in cc)
shape-exact register (counter m) e = absurd (let p : false ≡ true = e in cc)
shape-exact register register e = refl
shape-exact register fold e = absurd (let p : false ≡ true = e in cc)
shape-exact fold set e = absurd (let p : false ≡ true = e in cc)
shape-exact fold grow e = absurd (let p : false ≡ true = e in cc)
shape-exact fold (counter m) e = absurd (let p : false ≡ true = e in cc)
shape-exact fold register e = absurd (let p : false ≡ true = e in cc)
shape-exact fold fold e = refl

-- ---- what a replica has

pub history-there : (r : Replica) → IsReplica r → (x : ℕ) → x < length (arc_value r.graph) → x < length r.histories.items
history-there r is x low = let many : length (map told r.histories.items) ≡ length (arc_value r.graph) = is.kept.histories_many in
    omega (arith, low, many, length-map r.histories.items told)

-- the state that a look-up gave
pub state-found : (states : List Held) (x y : ℕ) (s t : State) → y ≡ x → slice_get states y ≡ Some (held_of s) → t ≡ s → held_at states x ≡ held_of t
state-found states x y s t e found same = ap (λ (i : ℕ). held_at states i) (sym e) ∙ get_or_from_slice_get states y (held_of s) _ found ∙ sym (ap (λ (u : State). held_of u) same)

-- entries as plain data
abbrev pub entries_from : List Entry → List model.Entry
entries_from entries = map entry_of entries

-- an update as an entry
abbrev pub update_entry : ℕ → ℕ → Op → Entry
update_entry by x o = record { by = by; what = act.Update x o }

-- the same replica but for what its histories have made ready
pub stays : (old new : Replica) → IsReplica old → arc_value new.graph ≡ arc_value old.graph → new.opening ≡ old.opening → new.me ≡ old.me → new.counts ≡ old.counts → new.states ≡ old.states
    → map told new.histories.items ≡ map told old.histories.items → map seen new.processes.items ≡ map seen old.processes.items → busy_of new ≡ busy_of old → new.journal.items ≡ old.journal.items → Stays old new
stays old new is graph opening me counts states histories bases busy items = record {
  sound = replica-kept (frame_of old) (entries_of old) new frame entries (subst (λ (p : Parts). IsKept (frame_of old) (entries_of old) p) (sym parts) is.kept) is.legal
      (subst (λ (g : List Decl). IsHeld (length old.counts) g (peer_of (frame_of old) (entries_of old))) (sym graph) is.held)
      (omega (arith, is.opened, opening, longs)) (omega (arith, is.few, wide)) (suited-same old new wide graph items is.suited);
  frame = frame;
  entries = entries;
  busy = busy;
} where
  entries : entries_of new ≡ entries_of old
  entries = ap entries_from items

  longs : length (arc_value new.graph) ≡ length (arc_value old.graph)
  longs = ap (λ (g : List Decl). length g) graph

  wide : length new.counts ≡ length old.counts
  wide = ap (λ (cs : List ℕ). length cs) counts

  frame : frame_of new ≡ frame_of old
  frame = frame-same old new opening me wide graph

  parts : parts_of new ≡ parts_of old
  parts = λ i. record { graph = graph i; counts = counts i; states = states i; histories = histories i; bases = bases i }

pub on-err : {A E : Type 0} {P : Type 0} (r : Result A E) → P → OnErr r P
on-err (Ok a) h = tt
on-err (Err e) h = h

pub kept-set : (histories : List Kept) (x : ℕ) (new : Kept) → x < length histories → kept_at (slice_set histories x new) x ≡ new
kept-set histories x new low = at-set (λ (h : Kept). h ≡ new) histories x new no_kept x low (λ _. refl) (λ apart. absurd (apart refl))

pub flipped : (b : Bool) (P : Type 0) → (IsTrue b ↔ P) → IsFalse (not b) ↔ P
flipped true P f = (λ _. f.0 refl, λ _. refl)
flipped false P f = (λ e. absurd (let p : true ≡ false = e in cc), λ h. absurd (let p : false ≡ true = f.1 h in cc))

-- the growth of one history
pub recorded-one : (grows : Bool) (x entry : ℕ) (histories : List Kept) (old new : Kept) → grows ≡ true → x < length histories → old ≡ get_or histories x old → new.history ≡ history.grown old.history old.pending entry
    → map told (slice_set histories x new) ≡ recorded grows x entry histories
recorded-one grows x entry histories old new yes_grows low found is =
    map-set (λ (h : Kept). told h) histories x new
    ∙ ap (λ (t : History). slice_set (map told histories) x t) (is ∙ ap (λ (h : Kept). history.grown h.history h.pending entry) (found ∙ get_or_default histories x old no_kept low))
    ∙ sym (ap (λ (b : Bool). recorded b x entry histories) yes_grows)

-- ---- what an update brings

pub record IsChecked (r : Replica) (x : ℕ) (o : Op) : Type 0 where
  pub declared : x < length (arc_value r.graph)
  pub source : IsTrue (is_source (kind_at (arc_value r.graph) x))
  pub suits : IsTrue (is_for (length r.counts) o (kind_at (arc_value r.graph) x))
  pub few : count_at r.counts r.me < 100000

tests : (a b c d : Bool) → None ≡ (if not a then Some update.UnknownVar else if not b then Some update.NotASource else if not c then Some update.WrongOp else if d then Some update.UpdatesFull else None)
    → (a ≡ true) × (b ≡ true) × (c ≡ true) × (d ≡ false)
tests true true true false e = (refl, refl, refl, refl)
tests true true true true e = absurd (let p : None ≡ Some update.UpdatesFull = e in cc)
tests true true false d e = absurd (let p : None ≡ Some update.WrongOp = e in cc)
tests true false c d e = absurd (let p : None ≡ Some update.NotASource = e in cc)
tests false b c d e = absurd (let p : None ≡ Some update.UnknownVar = e in cc)

pub checked : (r : Replica) (x : ℕ) (o : Op) → None ≡ update_check (length r.counts) r.me (arc_value r.graph) r.counts x o → IsChecked r x o
checked r x o e =
    let all = tests (nat_lt x (length (arc_value r.graph))) (is_source (kind_at (arc_value r.graph) x)) (is_for (length r.counts) o (kind_at (arc_value r.graph) x)) (nat_le 100000 (count_at r.counts r.me)) e in
    let low : nat_lt x (length (arc_value r.graph)) ≡ true = all.0 in
    let room : nat_le 100000 (count_at r.counts r.me) ≡ false = all.3 in
    record { declared = grind (arith, nat_tests, low); source = all.1; suits = all.2; few = grind (arith, nat_tests, room) }

-- the state of a source has the shape of its kind
source-shape : (r : Replica) (x : ℕ) (o : Op) (s : State) → IsReplica r → IsChecked r x o → held_at r.states x ≡ held_of s → state.shape_of s ≡ shape_of (length r.counts) (kind_at (arc_value r.graph) x)
source-shape r x o s is c found = sym (ap (λ (h : Held). h.shape) found) ∙ is.kept.shapes x c.declared

own-shape : (r : Replica) (x : ℕ) (o : Op) (s : State) → IsReplica r → IsChecked r x o → held_at r.states x ≡ held_of s → shape_for (length r.counts) o ≡ state.shape_of s
own-shape r x o s is c found = shape-exact (shape_for (length r.counts) o) (shape_of (length r.counts) (kind_at (arc_value r.graph) x)) c.suits ∙ sym (source-shape r x o s is c found)

apart : (r : Replica) (x : ℕ) (o : Op) (s : State) → IsReplica r → IsChecked r x o → held_at r.states x ≡ held_of s → state.shape_of s ≡ fold → ⊥
apart r x o s is c found e = no-fold (length r.counts) (kind_at (arc_value r.graph) x) c.source (sym (source-shape r x o s is c found) ∙ e)

pub suited : (r : Replica) (x : ℕ) (o : Op) (s : State) → IsReplica r → IsChecked r x o → held_at r.states x ≡ held_of s → IsOpOf o r.me (state.shape_of s)
suited r x (op.Add v) s is c found = sym (own-shape r x (op.Add v) s is c found)
suited r x (op.Remove v) s is c found = sym (own-shape r x (op.Remove v) s is c found)
suited r x (op.Insert v) s is c found = sym (own-shape r x (op.Insert v) s is c found)
suited r x (op.Inc by) s is c found = (length r.counts, sym (own-shape r x (op.Inc by) s is c found), is.legal.member)
suited r x (op.Max n) s is c found = sym (own-shape r x (op.Max n) s is c found)
suited r x (op.Join t) s is c found = (own-shape r x (op.Join t) s is c found, apart r x (op.Join t) s is c found)

pub count-found : (r : Replica) (k : ℕ) → slice_get r.counts r.me ≡ Some k → count_at r.counts r.me ≡ k
count-found r k e = get_or_from_slice_get r.counts r.me k 0 e

pub gained : (r : Replica) (x : ℕ) (o : Op) (s d : State) → IsReplica r → IsChecked r x o → held_at r.states x ≡ held_of s → join_contents (content_of s) (content_of d) ≡ join_contents (content_of s) (plain.delta (op_of o) (content_of s) r.me (count_at r.counts r.me + 1))
    → IsOrdered (content_of d) → state.shape_of d ≡ state.shape_of s → size_of (join_contents (content_of s) (content_of d)) ≤ row_limit → IsGain r x o d
gained r x o s d is c found joined ordered shape small = record {
  declared = c.declared;
  source = c.source;
  suits = c.suits;
  few = c.few;
  joined = subst (λ (h : Held). join_contents h.content (content_of d) ≡ join_contents h.content (plain.delta (op_of o) h.content r.me (count_at r.counts r.me + 1))) (sym found) joined;
  ordered = ordered;
  small = subst (λ (h : Held). size_of (join_contents h.content (content_of d)) ≤ row_limit) (sym found) small;
  joinable = record { shape = ap (λ (h : Held). h.shape) found ∙ sym shape; nested = λ e. absurd (apart r x o s is c found (sym (ap (λ (h : Held). h.shape) found) ∙ e)) };
}

pub refusal : (r : Replica) (x : ℕ) (o : Op) (s d : State) → None ≡ update_check (length r.counts) r.me (arc_value r.graph) r.counts x o → held_at r.states x ≡ held_of s
    → join_contents (content_of s) (content_of d) ≡ join_contents (content_of s) (plain.delta (op_of o) (content_of s) r.me (count_at r.counts r.me + 1)) → (large : Bool) → nat_lt row_limit (size_of (join_contents (content_of s) (content_of d))) ≡ large
    → update_refusal (length r.counts) r.me (arc_value r.graph) (contents_of r.states) r.counts x o ≡ (if large then Some update.TooManyRows else None)
refusal r x o s d fits found joined large size =
    ap (λ (c : Content). or_too_many (update_check (length r.counts) r.me (arc_value r.graph) r.counts x o) (nat_lt row_limit (size_of (join_contents c (plain.delta (op_of o) c r.me (count_at r.counts r.me + 1)))))) own
    ∙ ap (λ (c : Content). or_too_many (update_check (length r.counts) r.me (arc_value r.graph) r.counts x o) (nat_lt row_limit (size_of c))) (sym joined)
    ∙ ap (λ (b : Bool). or_too_many (update_check (length r.counts) r.me (arc_value r.graph) r.counts x o) b) size
    ∙ ap (λ (w : Option UpdateRefused). or_too_many w large) (sym fits) where
      own : content_at (contents_of r.states) x ≡ content_of s
      own = at-map (λ (h : Held). h.content) r.states x (record { shape = set; content = least; number = pos 0 }) ∙ ap (λ (h : Held). h.content) found

-- what a state joined in leaves, with the memory to write it down
pub prepared : (x y : ℕ) (old new : Replica) (s d : State) (grows : Bool) → y ≡ x → held_at old.states x ≡ held_of s → (IsFalse grows ↔ IsContentAtMost (content_of d) (content_of s))
    → IsReplica old → x < length (arc_value old.graph) → (before after : Kept) → before ≡ get_or old.histories.items x before → after.history ≡ before.history → IsTrue after.prepared
    → AreRowsOf (news_of (state.shape_of s) (content_of s) (content_of d)) after.pending → new.histories.items ≡ slice_set old.histories.items x after → arc_value new.graph ≡ arc_value old.graph → new.opening ≡ old.opening → new.me ≡ old.me
    → new.counts ≡ old.counts → new.processes.items ≡ old.processes.items → new.journal.items ≡ old.journal.items → vec_len new.journal < vec_capacity new.journal
    → new.states ≡ slice_set old.states y (grown (held_at old.states y) (held_of d)) → IsPrepared x (held_of d) grows old new
prepared x y old new s d grows place found order is low before after there same ready pending histories graph opening me counts processes entries room states = record {
  graph = graph;
  opening = opening;
  me = me;
  counts = counts;
  processes = processes;
  entries = entries;
  room = room;
  states = states ∙ ap (λ (i : ℕ). slice_set old.states i (grown (held_at old.states i) (held_of d))) place;
  histories = ap (λ (hs : List Kept). map told hs) histories ∙ told-set old.histories.items x before after there same;
  ready = ap (λ (h : Kept). h.prepared) own ∙ ready;
  pending = ready-rows _ (kept_at new.histories.items x) after own (pending.made ∙ sym (ap (λ (h : Held). news_of h.shape h.content (content_of d)) found)) pending.apart;
  grows_is = subst (λ (h : Held). IsFalse grows ↔ IsContentAtMost (content_of d) h.content) (sym found) order;
} where
  own : kept_at new.histories.items x ≡ after
  own = ap (λ (hs : List Kept). kept_at hs x) histories ∙ kept-set old.histories.items x after (history-there old is x low)

-- ---- what an update is

kind-set : (nodes : ℕ) (k : Kind) → IsTrue (is_source k) → IsTrue (is_shape set (shape_of nodes k)) → k ≡ OrSet
kind-set nodes OrSet source e = refl
kind-set nodes GSet source e = absurd (let p : false ≡ true = e in cc)
kind-set nodes Counter source e = absurd (let p : false ≡ true = e in cc)
kind-set nodes MaxReg source e = absurd (let p : false ≡ true = e in cc)
kind-set nodes (Union x y) source e = absurd (let p : false ≡ true = source in cc)
kind-set nodes (Product x y) source e = absurd (let p : false ≡ true = source in cc)
kind-set nodes (Intersection x y) source e = absurd (let p : false ≡ true = source in cc)
kind-set nodes (Map x place ops) source e = absurd (let p : false ≡ true = source in cc)
kind-set nodes (Filter x place ops) source e = absurd (let p : false ≡ true = source in cc)
kind-set nodes (Fold x op place lift) source e = absurd (let p : false ≡ true = source in cc)

kind-grow : (nodes : ℕ) (k : Kind) → IsTrue (is_source k) → IsTrue (is_shape grow (shape_of nodes k)) → k ≡ GSet
kind-grow nodes OrSet source e = absurd (let p : false ≡ true = e in cc)
kind-grow nodes GSet source e = refl
kind-grow nodes Counter source e = absurd (let p : false ≡ true = e in cc)
kind-grow nodes MaxReg source e = absurd (let p : false ≡ true = e in cc)
kind-grow nodes (Union x y) source e = absurd (let p : false ≡ true = source in cc)
kind-grow nodes (Product x y) source e = absurd (let p : false ≡ true = source in cc)
kind-grow nodes (Intersection x y) source e = absurd (let p : false ≡ true = source in cc)
kind-grow nodes (Map x place ops) source e = absurd (let p : false ≡ true = source in cc)
kind-grow nodes (Filter x place ops) source e = absurd (let p : false ≡ true = source in cc)
kind-grow nodes (Fold x op place lift) source e = absurd (let p : false ≡ true = source in cc)

kind-counter : (nodes many : ℕ) (k : Kind) → IsTrue (is_source k) → IsTrue (is_shape (counter many) (shape_of nodes k)) → k ≡ Counter
kind-counter nodes many OrSet source e = absurd (let p : false ≡ true = e in cc)
kind-counter nodes many GSet source e = absurd (let p : false ≡ true = e in cc)
kind-counter nodes many Counter source e = refl
kind-counter nodes many MaxReg source e = absurd (let p : false ≡ true = e in cc)
kind-counter nodes many (Union x y) source e = absurd (let p : false ≡ true = source in cc)
kind-counter nodes many (Product x y) source e = absurd (let p : false ≡ true = source in cc)
kind-counter nodes many (Intersection x y) source e = absurd (let p : false ≡ true = source in cc)
kind-counter nodes many (Map x place ops) source e = absurd (let p : false ≡ true = source in cc)
kind-counter nodes many (Filter x place ops) source e = absurd (let p : false ≡ true = source in cc)
kind-counter nodes many (Fold x op place lift) source e = absurd (let p : false ≡ true = source in cc)

kind-register : (nodes : ℕ) (k : Kind) → IsTrue (is_source k) → IsTrue (is_shape register (shape_of nodes k)) → k ≡ MaxReg
kind-register nodes OrSet source e = absurd (let p : false ≡ true = e in cc)
kind-register nodes GSet source e = absurd (let p : false ≡ true = e in cc)
kind-register nodes Counter source e = absurd (let p : false ≡ true = e in cc)
kind-register nodes MaxReg source e = refl
kind-register nodes (Union x y) source e = absurd (let p : false ≡ true = source in cc)
kind-register nodes (Product x y) source e = absurd (let p : false ≡ true = source in cc)
kind-register nodes (Intersection x y) source e = absurd (let p : false ≡ true = source in cc)
kind-register nodes (Map x place ops) source e = absurd (let p : false ≡ true = source in cc)
kind-register nodes (Filter x place ops) source e = absurd (let p : false ≡ true = source in cc)
kind-register nodes (Fold x op place lift) source e = absurd (let p : false ≡ true = source in cc)

-- a state of the shape of a source is one of the source's kind
kind-state : (nodes : ℕ) (k : Kind) (s : State) → IsTrue (is_source k) → IsTrue (is_shape (state.shape_of s) (shape_of nodes k)) → k ≡ wire.kind_of s
kind-state nodes k (variant.Set rows) source e = kind-set nodes k source e
kind-state nodes k (variant.Grow values) source e = kind-grow nodes k source e
kind-state nodes k (variant.Count counts) source e = kind-counter nodes (length counts) k source e
kind-state nodes k (variant.Max m) source e = kind-register nodes k source e
kind-state nodes k (variant.Fold rows n) source e = absurd (no-fold nodes k source (sym (shape-exact fold (shape_of nodes k) e)))

pub is-update : (nodes : ℕ) (g : List Decl) (x : ℕ) (o : Op) → IsSmall nodes o → IsInFormat o → IsTrue (is_source (kind_at g x)) → IsTrue (is_for nodes o (kind_at g x)) → IsUpdate nodes g x (op_of o)
is-update nodes g x (op.Add v) small format source e = (kind-set nodes (kind_at g x) source e, record { size = small; parts = format })
is-update nodes g x (op.Remove v) small format source e = (kind-set nodes (kind_at g x) source e, record { size = small; parts = format })
is-update nodes g x (op.Insert v) small format source e = (kind-grow nodes (kind_at g x) source e, record { size = small; parts = format })
is-update nodes g x (op.Inc by) small format source e = kind-counter nodes nodes (kind_at g x) source e
is-update nodes g x (op.Max n) small format source e = (kind-register nodes (kind_at g x) source e, format)
is-update nodes g x (op.Join s) small format source e =
    let same : kind_at g x ≡ wire.kind_of (arc_value s) = kind-state nodes (kind_at g x) (arc_value s) source e in
    subst (λ (k : Kind). IsSource nodes k (content_of (arc_value s))) (sym same) (small (subst (λ (k : Kind). IsTrue (is_source k)) same source))

-- ---- what an update leaves

-- the replica after an update that is joined in and written down
pub updated : (old mid new : Replica) (by x entry : ℕ) (o : Op) (d : State) (grows : Bool) → IsReplica old → IsSmall (length old.counts) o → IsInFormat o → IsGain old x o d → IsPrepared x (held_of d) grows old mid
    → arc_value new.graph ≡ arc_value mid.graph → new.opening ≡ mid.opening → new.me ≡ mid.me → new.counts ≡ slice_set old.counts old.me (count_at old.counts old.me + 1) → new.states ≡ mid.states
    → entry ≡ length (entries_of old) → map told new.histories.items ≡ recorded grows x entry mid.histories.items → new.processes.items ≡ mid.processes.items
    → entries_of new ≡ entries_of old ++ model.entry by (model.Update x (op_of o)) ∷ [] → (kept_op : Op) → new.journal.items ≡ old.journal.items ++ update_entry by x kept_op ∷ [] → shape_for (length old.counts) kept_op ≡ shape_for (length old.counts) o
    → Goes (model.entry by (model.Update x (op_of o))) old new
updated old mid new by x entry o d grows is within format gain ready graph opening me counts states here histories processes entries kept_op items shape = record {
  sound = replica-kept X h' new frame entries kept' legal' held' (omega (arith, is.opened, opening, ready.opening, longs)) (omega (arith, is.few, wide))
      (suited-more old new (update_entry by x kept_op) wide graphs items is.suited
      (record { declared = gain.declared; suits = subst (λ (shape : Shape). IsTrue (is_shape shape (shape_of (length old.counts) (kind_at (arc_value old.graph) x)))) (sym shape) gain.suits }));
  frame = frame;
  entries = entries;
  busy = ap (λ (ps : List (Option Process)). map jobs_of ps) (processes ∙ ready.processes);
} where
  X : Frame
  X = frame_of old

  h : List model.Entry
  h = entries_of old

  e : model.Entry
  e = model.entry by (model.Update x (op_of o))

  h' : List model.Entry
  h' = h ++ e ∷ []

  graphs : arc_value new.graph ≡ arc_value old.graph
  graphs = graph ∙ ready.graph

  longs : length (arc_value new.graph) ≡ length (arc_value old.graph)
  longs = ap (λ (g : List Decl). length g) graphs

  wide : length new.counts ≡ length old.counts
  wide = ap (λ (cs : List ℕ). length cs) counts ∙ set-length old.counts old.me (count_at old.counts old.me + 1)

  frame : frame_of new ≡ frame_of old
  frame = frame-same old new (opening ∙ ready.opening) (me ∙ ready.me) wide graphs

  low : x < length (journal.graph X h)
  low = subst (λ (g : List Decl). x < length g) is.kept.graph gain.declared

  update-is : IsUpdate X.nodes (journal.graph X h) x (op_of o)
  update-is = subst (λ (g : List Decl). IsUpdate X.nodes g x (op_of o)) is.kept.graph (is-update X.nodes (arc_value old.graph) x o within format gain.source gain.suits)

  few : count_at (journal.counts X h) old.me < 100000
  few = subst (λ (cs : List ℕ). count_at cs old.me < 100000) is.kept.counts gain.few

  value : (held_at old.states x).content ≡ val X h x
  value = held-val X h (parts_of old) is.kept x

  brought : join_contents (val X h x) (content_of d) ≡ join_contents (val X h x) (plain.delta (op_of o) (val X h x) old.me (count_at (journal.counts X h) old.me + 1))
  brought = subst (λ (c : Content). join_contents c (content_of d) ≡ join_contents c (plain.delta (op_of o) c old.me (count_at (journal.counts X h) old.me + 1))) value
      (gain.joined ∙ ap (λ (cs : List ℕ). join_contents (held_at old.states x).content (plain.delta (op_of o) (held_at old.states x).content old.me (count_at cs old.me + 1))) is.kept.counts)

  small : size_of (join_contents (val X h x) (plain.delta (op_of o) (val X h x) old.me (count_at (journal.counts X h) old.me + 1))) ≤ row_limit
  small = subst (λ (c : Content). size_of c ≤ row_limit) brought (subst (λ (c : Content). size_of (join_contents c (content_of d)) ≤ row_limit) value gain.small)

  legal' : IsLegal X h'
  legal' = legal-update X h is.legal e x (op_of o) refl low update-is few small

  held-before : IsHeld X.nodes (journal.graph X h) (peer_of X h)
  held-before = subst (λ (g : List Decl). IsHeld X.nodes g (peer_of X h)) is.kept.graph is.held

  held' : IsHeld X.nodes (arc_value new.graph) (peer_of X h')
  held' = subst (λ (g : List Decl). IsHeld X.nodes g (peer_of X h')) (graph-updated X h e x (op_of o) refl ∙ sym is.kept.graph ∙ sym graphs) (held-update X h is.legal held-before e x (op_of o) refl low update-is few small)

  -- the parts of the new one with these histories
  with-histories : List History → Parts
  with-histories hs = record { graph = arc_value old.graph; counts = slice_set old.counts old.me (count_at old.counts old.me + 1); states = slice_set old.states x (grown (held_at old.states x) (held_of d)); histories = hs; bases = map (option_map base_of) old.processes.items }

  parts : (hs : List History) → map told new.histories.items ≡ hs → with-histories hs ≡ parts_of new
  parts hs is_hs = λ i. record {
    graph = sym graphs i;
    counts = sym counts i;
    states = sym (states ∙ ready.states) i;
    histories = sym is_hs i;
    bases = map (option_map base_of) (sym (processes ∙ ready.processes) i);
  }

  own : (kept_at mid.histories.items x).history ≡ history_at (map told old.histories.items) x
  own = sym (at-map (λ (k : Kept). told k) mid.histories.items x no_kept) ∙ ap (λ (hs : List History). history_at hs x) ready.histories

  choose : (b : Bool) → (IsFalse b ↔ IsContentAtMost (content_of d) (held_at old.states x).content) → map told new.histories.items ≡ recorded b x entry mid.histories.items → IsKept X h' (parts_of new)
  choose false f told_is =
      subst (λ (p : Parts). IsKept X h' p) (parts (map told old.histories.items) (told_is ∙ ready.histories))
      (kept-updated-still X h is.legal e x (op_of o) refl (parts_of old) is.kept gain.declared gain.source (held_of d) brought (f.0 refl))
  choose true f told_is =
      let news = (kept_at mid.histories.items x).pending in
      subst (λ (p : Parts). IsKept X h' p)
      (parts (slice_set (map told old.histories.items) x (history.grown (history_at (map told old.histories.items) x) news (length h)))
      (told_is ∙ (λ i. slice_set (ready.histories i) x (history.grown (own i) news (here i)))))
      (kept-updated-grown X h is.legal e x (op_of o) refl (parts_of old) is.kept gain.declared gain.source (held_of d) brought
      (λ covered. let p : true ≡ false = f.1 covered in cc) news ready.pending)

  kept' : IsKept X h' (parts_of new)
  kept' = choose grows ready.grows_is histories

-- the count of the replica's own updates, one more
pub counted : (old mid : Replica) (i k : ℕ) (new : List ℕ) → mid.me ≡ old.me → mid.counts ≡ old.counts → i ≡ mid.me → slice_get mid.counts i ≡ Some k → new ≡ slice_set mid.counts i (k + 1)
    → new ≡ slice_set old.counts old.me (count_at old.counts old.me + 1)
counted old mid i k new me counts place found set_is =
    let there : count_at mid.counts i ≡ k = get_or_from_slice_get mid.counts i k 0 found in
    set_is ∙ ap (λ (n : ℕ). slice_set mid.counts i (n + 1)) (sym there) ∙ (λ j. slice_set (counts j) ((place ∙ me) j) (count_at (counts j) ((place ∙ me) j) + 1))

pub entries-many : (old mid : List Entry) (n : ℕ) → mid ≡ old → n ≡ length mid → n ≡ length (map entry_of old)
entries-many old mid n same many = many ∙ ap (λ (es : List Entry). length es) same ∙ sym (length-map old entry_of)

-- the journal with the update pushed
pub pushed : {A E : Type 0} (r : Result A E) (old mid new : List Entry) (by x : ℕ) (o own : Op) → mid ≡ old → IsOk r → new ≡ (if is_ok r then mid ++ update_entry by x own ∷ [] else mid) → op_of own ≡ op_of o
    → map entry_of new ≡ map entry_of old ++ model.entry by (model.Update x (op_of o)) ∷ []
pushed r old mid new by x o own same done items copy =
    ap (λ (es : List Entry). map entry_of es) (where-ok r new (mid ++ update_entry by x own ∷ []) mid done items)
    ∙ map-append entry_of mid (update_entry by x own ∷ [])
    ∙ (λ i. map entry_of (same i) ++ model.entry by (model.Update x (copy i)) ∷ [])
