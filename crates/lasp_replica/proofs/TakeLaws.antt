-- What a job of a variable has, and what a replica is once one is out or back.
use Rattle.std.proofs.Common.{ℕ, pos, ◌≡◌, ◌<◌, ◌≤◌, ◌-◌, Bool, true, false, IsTrue, IsFalse, IfOk, Result, Ok, Err, List, length, map, take, get_or, Option, Some, None, IfSome, is_some, refl, sym, ap, subst, ◌∙◌, arith, slice_set, vec_len}
use Rattle.std.specs.Option.{option_map}
use Rattle.std.specs.Vec.{with_item}
use Rattle.std.specs.Prelude.{slice_get}
use Rattle.std.specs.Arc.{arc_value}
use Rattle.std.proofs.lemmas.List.{length-map, map-set, take_all}
use Rattle.std.proofs.lemmas.Option.{get_or_from_slice_get}
use Rattle.std.proofs.Math.Seq.{map-set_same}
use Rattle.model_values.specs.Row.{Row}
use Rattle.model_sets.specs.Rows.{of_rows}
use Rattle.model_states.specs.Content.{Content, least, of_set}
use Rattle.model_states.specs.Threshold.{set}
use Rattle.model_graph.specs.Graph.{Decl, Kind, OrSet, GSet, Counter, MaxReg, Union, Product, Intersection, Map, Filter, Fold, is_set, kind_at}
use Rattle.model_graph.specs.Evaluation.{content_at}
use Rattle.model_graph.specs.Lawful.{IsDerived}
use Rattle.model_runs.specs.Held.{IsHeld}
use Rattle.model_core.specs.Peer.{peer_of}
use Rattle.model_journal.specs.Entry as model
use Rattle.model_journal.specs.Journal.{graph, vals}
use Rattle.model_journal.specs.Clean.{base}
use Rattle.lasp_state.specs.declared.state.State.{State}
use Rattle.lasp_state.specs.declared.state.State.TheVariants as state
use Rattle.lasp_state.specs.State.{content_of, shape_of}
use Rattle.lasp_graph.specs.declared.inputs.Inputs.{Inputs}
use Rattle.lasp_graph.specs.States.{Held, held_of, held_at}
use Rattle.lasp_graph.specs.Evaluated.{second_of, process}
use Rattle.lasp_graph.specs.Delta.{IsStateOf}
use Rattle.lasp_replica.specs.History.{rows_before}
use Rattle.lasp_replica.specs.Kept.{Kept}
use Rattle.lasp_replica.specs.Asked.{IsReadable, IsAsked, has_two}
use Rattle.lasp_replica.specs.declared.job.Job.{Job}
use Rattle.lasp_replica.specs.Parts.{Parts, IsKept, IsRead, first_input, second_input, history_at}
use Rattle.lasp_replica.specs.Reading.{IsSmallSet, HasChanged, IsOfItsKind, rows_since}
use Rattle.lasp_replica.proofs.PartLaws.{held-val, states-long}
use Rattle.lasp_replica.proofs.ReadLaws.{kept-all, kept-base, kept-width, kept-within, kept-read, kept-was, kept-old, kept-change-first, kept-change-second}
use Rattle.lasp_replica.specs.declared.process.Process.{Process}
use Rattle.lasp_replica.specs.declared.replica.Replica.{Replica}
use Rattle.lasp_replica.specs.Entries.{entry_of}
use Rattle.lasp_replica.specs.Replica.{read_of, base_of, jobs_of, frame_of, entries_of, busy_of, told, parts_of, IsReplica}
use Rattle.lasp_replica.specs.Jobs.{counted_up, AreShared, AreInputsOf, IsOwn, IsJobNow, IsReadAt, IsSetAt, IsSetVar, HasStarted, HasStopped}
use Rattle.lasp_replica.proofs.ReplicaLaws.{replica-kept}
use Rattle.lasp_replica.proofs.SuitLaws.{suited-same}
use Rattle.lasp_replica.proofs.SettledLaws.{base-found, jobs-found, process-derived, history-found, AreInputs}

-- ---- a process that is busy once more or less

-- the replica before and after its process of variable y became another one, which last read the same
pub record HasTurned (y : ℕ) (p q : Process) (old new : Replica) : Type 0 where
  pub found : slice_get old.processes.items y ≡ Some (Some p)
  pub base_same : base_of q ≡ base_of p
  pub graph_same : new.graph ≡ old.graph
  pub opening_same : new.opening ≡ old.opening
  pub me_same : new.me ≡ old.me
  pub counts_same : new.counts ≡ old.counts
  pub states_same : new.states ≡ old.states
  pub histories_same : new.histories ≡ old.histories
  pub journal_same : new.journal ≡ old.journal
  pub turned : new.processes.items ≡ slice_set old.processes.items y (Some q)

turned-bases : (y : ℕ) (p q : Process) (old new : Replica) → HasTurned y p q old new → map (option_map base_of) new.processes.items ≡ map (option_map base_of) old.processes.items
turned-bases y p q old new t =
    ap (map (option_map base_of)) t.turned
    ∙ map-set_same (option_map base_of) old.processes.items y (Some q) (Some p) (ap Some t.base_same ∙ ap (option_map base_of) (sym (get_or_from_slice_get old.processes.items y (Some p) (Some p) t.found)))

turned-parts : (y : ℕ) (p q : Process) (old new : Replica) → HasTurned y p q old new → parts_of new ≡ parts_of old
turned-parts y p q old new t =
    let bases = turned-bases y p q old new t in
    λ i. record { graph = arc_value (t.graph_same i); counts = t.counts_same i; states = t.states_same i; histories = map told (t.histories_same i).items; bases = bases i }

turned-frame : (y : ℕ) (p q : Process) (old new : Replica) → HasTurned y p q old new → frame_of new ≡ frame_of old
turned-frame y p q old new t = λ i. record { opening = take (t.opening_same i) (arc_value (t.graph_same i)); replica = t.me_same i; nodes = length (t.counts_same i) }

turned-entries : (y : ℕ) (p q : Process) (old new : Replica) → HasTurned y p q old new → entries_of new ≡ entries_of old
turned-entries y p q old new t = λ i. map entry_of (t.journal_same i).items

turned-sound : (y : ℕ) (p q : Process) (old new : Replica) → IsReplica old → HasTurned y p q old new → IsReplica new
turned-sound y p q old new ok t =
    let g : arc_value new.graph ≡ arc_value old.graph = λ i. arc_value (t.graph_same i) in
    replica-kept (frame_of old) (entries_of old) new (turned-frame y p q old new t) (turned-entries y p q old new t)
    (subst (λ (w : Parts). IsKept (frame_of old) (entries_of old) w) (sym (turned-parts y p q old new t)) ok.kept)
    ok.legal
    (subst (λ (w : List Decl). IsHeld (length old.counts) w (peer_of (frame_of old) (entries_of old))) (sym g) ok.held)
    (subst (λ (n : ℕ). n ≤ length (arc_value new.graph)) (sym t.opening_same) (subst (λ (w : List Decl). old.opening ≤ length w) (sym g) ok.opened))
    (subst (λ (w : List ℕ). length w ≤ 8) (sym t.counts_same) ok.few)
    (suited-same old new (ap length t.counts_same) g (λ i. (t.journal_same i).items) ok.suited)

turned-busy : (y : ℕ) (p q : Process) (old new : Replica) → HasTurned y p q old new → busy_of new ≡ slice_set (busy_of old) y q.busy
turned-busy y p q old new t = ap (map jobs_of) t.turned ∙ map-set jobs_of old.processes.items y (Some q)

has-started : (y : ℕ) (p q : Process) (old new : Replica) → IsReplica old → HasTurned y p q old new → q.busy ≡ counted_up p.busy 1 → HasStarted y old new
has-started y p q old new ok t e = record {
  sound = turned-sound y p q old new ok t;
  frame = turned-frame y p q old new t;
  entries = turned-entries y p q old new t;
  busy = turned-busy y p q old new t ∙ ap (λ (n : ℕ). slice_set (busy_of old) y n) (e ∙ ap (λ (n : ℕ). counted_up n 1) (sym (jobs-found old y (Some p) t.found)));
}

has-stopped : (y : ℕ) (p q : Process) (old new : Replica) → IsReplica old → HasTurned y p q old new → q.busy ≡ p.busy - 1 → HasStopped y old new
has-stopped y p q old new ok t e = record {
  sound = turned-sound y p q old new ok t;
  frame = turned-frame y p q old new t;
  entries = turned-entries y p q old new t;
  busy = turned-busy y p q old new t ∙ ap (λ (n : ℕ). slice_set (busy_of old) y n) (e ∙ ap (λ (n : ℕ). n - 1) (sym (jobs-found old y (Some p) t.found)));
}

-- the replica with another process of variable y
abbrev pub turned_to : Replica → ℕ → Process → Replica
turned_to r y q = record { graph = r.graph; opening = r.opening; me = r.me; counts = r.counts; states = r.states; histories = r.histories; processes = with_item r.processes y (Some q); journal = r.journal }

-- the process with so many jobs out
abbrev pub busied : Process → ℕ → Process
busied p n = record { n = p.n; base = p.base; busy = n }

has-turned : (r : Replica) (y : ℕ) (p : Process) (n : ℕ) → slice_get r.processes.items y ≡ Some (Some p) → HasTurned y p (busied p n) r (turned_to r y (busied p n))
has-turned r y p n found = record {
  found = found;
  base_same = refl;
  graph_same = refl;
  opening_same = refl;
  me_same = refl;
  counts_same = refl;
  states_same = refl;
  histories_same = refl;
  journal_same = refl;
  turned = refl;
}

pub started : (r : Replica) → IsReplica r → (y : ℕ) (p : Process) (n : ℕ) → slice_get r.processes.items y ≡ Some (Some p) → n ≡ counted_up p.busy 1 → HasStarted y r (turned_to r y (busied p n))
started r ok y p n found e = has-started y p (busied p n) r (turned_to r y (busied p n)) ok (has-turned r y p n found) e

pub stopped : (r : Replica) → IsReplica r → (y : ℕ) (p : Process) (n : ℕ) → slice_get r.processes.items y ≡ Some (Some p) → n ≡ p.busy - 1 → HasStopped y r (turned_to r y (busied p n))
stopped r ok y p n found e = has-stopped y p (busied p n) r (turned_to r y (busied p n)) ok (has-turned r y p n found) e

pub journal-long : (r : Replica) (n m : ℕ) → n ≡ m → m ≡ vec_len r.journal → n ≡ length (entries_of r)
journal-long r n m e many = omega (arith, e, many, r.journal.ok, length-map r.journal.items entry_of)

-- ---- changes

pub states-at : (r : Replica) → IsReplica r → (x v : ℕ) → v ≡ x → x < length (arc_value r.graph) → v < length r.states
states-at r ok x v e low = omega (arith, e, low, states-long (frame_of r) (entries_of r) ok.legal (parts_of r) ok.kept)

-- the state of a variable
pub state-at : (r : Replica) (x v : ℕ) (s : State) → v ≡ x → slice_get r.states v ≡ Some (held_of s) → held_of s ≡ held_at r.states x
state-at r x v s e found = sym (ap (held_at r.states) (sym e) ∙ get_or_from_slice_get r.states v (held_of s) (record { shape = set; content = least; number = pos 0 }) found)

-- a state of a set is a set
only-set : (s : State) → shape_of s ≡ set → ((rows : List Row) → s ≡ state.Set rows → ⊥) → ⊥
only-set (state.Set rows) e f = f rows refl
only-set (state.Grow values) e f = cc
only-set (state.Count counts) e f = cc
only-set (state.Max m) e f = cc
only-set (state.Fold rows n) e f = cc

pub set-state : (r : Replica) → IsReplica r → (x v : ℕ) → x < length (arc_value r.graph) → IsTrue (is_set (kind_at (arc_value r.graph) x)) → (s t : State) → v ≡ x → slice_get r.states v ≡ Some (held_of s) → t ≡ s
    → ((rows : List Row) → t ≡ state.Set rows → ⊥) → ⊥
set-state r ok x v low flat s t e found same f =
    only-set t (ap shape_of same ∙ ap (λ (h : Held). h.shape) (state-at r x v s e found) ∙ (kept-width (frame_of r) (entries_of r) ok.legal (parts_of r) ok.kept x low flat).shape) f

-- all rows changed since then
pub all-changed : (r : Replica) → IsReplica r → (x v : ℕ) → x < length (arc_value r.graph) → IsTrue (is_set (kind_at (arc_value r.graph) x)) → (s t : State) (rows : List Row) → v ≡ x → slice_get r.states v ≡ Some (held_of s) → t ≡ s → t ≡ state.Set rows
    → (n m : ℕ) (k : Kept) → x < length r.histories.items → k ≡ get_or r.histories.items x k → m ≡ rows_before k.history.growths n → m ≤ 0
    → rows ≡ rows_since (history_at (parts_of r).histories x) n
all-changed r ok x v low flat s t rows e found same is n m k there kept told none =
    sym (ap (λ (z : State). (content_of z).rows) is) ∙ ap (λ (z : State). (content_of z).rows) same ∙ ap (λ (h : Held). h.content.rows) (state-at r x v s e found)
    ∙ kept-all (frame_of r) (entries_of r) (parts_of r) ok.kept x low flat n
    (ap (λ h. rows_before h.growths n) (history-found r x k there kept) ∙ sym told ∙ (let zero : m ≡ 0 = omega (arith, none) in zero))

-- a copy of these rows
pub ok-same : {A E : Type 0} (r : Result A E) (x y : A) → IfOk r (λ z. z ≡ x) → x ≡ y → IfOk r (λ z. z ≡ y)
ok-same (Ok z) x y h e = h ∙ e
ok-same (Err w) x y h e = h

-- ---- jobs

-- what was taken of a replica for a job of variable y, whose inputs are x and z
pub record IsCopied (r : Replica) (y : ℕ) (p : Process) (x z : ℕ) (g : List Decl) (inputs base : Inputs) (old : State) (first second : List Row) : Type 0 where
  pub graph_is : g ≡ arc_value r.graph
  pub first_in : held_of (arc_value inputs.first) ≡ held_at r.states x
  pub second_in : held_of (second_of inputs) ≡ held_at r.states z
  pub two : is_some inputs.second ≡ has_two (kind_at (arc_value r.graph) y)
  pub base_is : IsReadAt r y p.n base
  pub old_is : held_of old ≡ held_at r.states y
  pub first_is : first ≡ rows_since (history_at (parts_of r).histories x) p.n
  pub second_is : second ≡ rows_since (history_at (parts_of r).histories z) p.n

one-input : (k : Kind) → IsFalse (has_two k) → first_input k ≡ second_input k
one-input OrSet e = refl
one-input GSet e = refl
one-input Counter e = refl
one-input MaxReg e = refl
one-input (Union x y) e = cc
one-input (Product x y) e = cc
one-input (Intersection x y) e = cc
one-input (Map x place ops) e = refl
one-input (Filter x place ops) e = refl
one-input (Fold x op place lift) e = refl

-- a process over one set reads it twice
pub one-alike : (r : Replica) (y x z : ℕ) (k : Kind) → AreInputs r y x z → kind_at (arc_value r.graph) y ≡ k → IsFalse (has_two k) → x ≡ z
one-alike r y x z k i e one = sym i.first_is ∙ ap first_input e ∙ one-input k one ∙ ap second_input (sym e) ∙ i.second_is

pub second-held : (r : Replica) (y x z : ℕ) (k : Kind) (inputs : Inputs) → AreInputs r y x z → kind_at (arc_value r.graph) y ≡ k → (IsTrue (has_two k) → held_of (second_of inputs) ≡ held_at r.states z) → (IsFalse (has_two k) → held_of (second_of inputs) ≡ held_at r.states x)
    → held_of (second_of inputs) ≡ held_at r.states z
second-held r y x z k inputs i e two one = choose (has_two k) refl where
  choose : (b : Bool) → has_two k ≡ b → held_of (second_of inputs) ≡ held_at r.states z
  choose true t = two t
  choose false f = one f ∙ ap (held_at r.states) (one-alike r y x z k i e f)

-- ---- what was read

-- a process read when there were so many entries at most
pub read-early : (r : Replica) → IsReplica r → (y : ℕ) (p : Process) → slice_get r.processes.items y ≡ Some (Some p) → p.n ≤ length (entries_of r)
read-early r ok y p found = kept-within (frame_of r) (entries_of r) ok.legal (parts_of r) ok.kept y (process-derived r ok y p found).declared (base_of p) (base-found r y (Some p) found)

-- a share of what it keeps
kept-shared : (r : Replica) → IsReplica r → (y : ℕ) (p : Process) → slice_get r.processes.items y ≡ Some (Some p) → (kept copy : Inputs) → p.base ≡ Some kept → AreShared kept copy → IsReadAt r y p.n copy
kept-shared r ok y p found kept copy is same =
    let X = frame_of r in
    let h = entries_of r in
    let read : IsRead (kind_at (arc_value r.graph) y) (vals X (take p.n h)) (read_of kept) =
    subst (λ (o : Option Inputs). IfSome (option_map read_of o) (IsRead (kind_at (arc_value r.graph) y) (vals X (take p.n h)))) is
    (kept-read X h (parts_of r) ok.kept y (process-derived r ok y p found).declared (base_of p) (base-found r y (Some p) found)) in
    record {
      first = ap (λ (w : Held). w.content) same.first ∙ read.first;
      second = ap (λ (w : Held). w.content) same.second ∙ read.second;
      first_set = ap (λ (w : Held). w.shape) same.first ∙ read.first_set;
      second_set = ap (λ (w : Held). w.shape) same.second ∙ read.second_set;
      two = same.two ∙ read.two;
    }

pub shared-read : {E : Type 0} (o : Result Inputs E) (r : Replica) → IsReplica r → (y : ℕ) (p : Process) → slice_get r.processes.items y ≡ Some (Some p) → (kept : Inputs) → p.base ≡ Some kept → IfOk o (AreShared kept) → IfOk o (IsReadAt r y p.n)
shared-read (Ok copy) r ok y p found kept is same = kept-shared r ok y p found kept copy is same
shared-read (Err w) r ok y p found kept is same = tt

-- a set of the rows that its history had by then
pub set-at : (r : Replica) → IsReplica r → (x n : ℕ) → IsSetVar r x → n ≤ length (entries_of r) → (k : Kept) → x < length r.histories.items → k ≡ get_or r.histories.items x k
    → (rows : List Row) → rows ≡ of_rows (take (rows_before k.history.growths n) k.history.log) → (s : State) → s ≡ state.Set rows → IsSetAt r n x s
set-at r ok x n var within k there kept rows is s e =
    let found = sym (history-found r x k there kept) in
    record {
      shape = ap shape_of e;
      content = ap content_of e ∙ ap of_set (is ∙ (λ i. of_rows (take (rows_before (found i).growths n) (found i).log)))
          ∙ sym (kept-was (frame_of r) (entries_of r) ok.legal (parts_of r) ok.kept x var.0 var.1 n within);
    }

-- sets as they were then
sets-read : (r : Replica) (y x z n : ℕ) → AreInputs r y x z → (k : Kind) → kind_at (arc_value r.graph) y ≡ k → (inputs : Inputs) → IsSetAt r n x (arc_value inputs.first)
    → (IsTrue (has_two k) → IsSetAt r n z (second_of inputs)) → (IsFalse (has_two k) → IsSetAt r n x (second_of inputs)) → is_some inputs.second ≡ has_two k → IsReadAt r y n inputs
sets-read r y x z n i k e inputs first two one some = record {
  first = first.content ∙ ap (content_at before) (sym i.first_is);
  second = second.content ∙ ap (content_at before) (sym i.second_is);
  first_set = first.shape;
  second_set = second.shape;
  two = some ∙ ap has_two (sym e);
} where
  before : List Content
  before = vals (frame_of r) (take n (entries_of r))

  choose : (b : Bool) → has_two k ≡ b → IsSetAt r n z (second_of inputs)
  choose true t = two t
  choose false f = subst (λ (w : ℕ). IsSetAt r n w (second_of inputs)) (one-alike r y x z k i e f) (one f)

  second : IsSetAt r n z (second_of inputs)
  second = choose (has_two k) refl

pub made-read : {E : Type 0} (o : Result Inputs E) (r : Replica) (y x z n : ℕ) → AreInputs r y x z → (k : Kind) → kind_at (arc_value r.graph) y ≡ k → IfOk o (λ i. IsSetAt r n x (arc_value i.first))
    → IfOk o (λ i. IsTrue (has_two k) → IsSetAt r n z (second_of i)) → IfOk o (λ i. IsFalse (has_two k) → IsSetAt r n x (second_of i)) → IfOk o (λ i. is_some i.second ≡ has_two k) → IfOk o (IsReadAt r y n)
made-read (Ok made) r y x z n i k e first two one some = sets-read r y x z n i k e made first two one some
made-read (Err w) r y x z n i k e first two one some = tt

readable : (s : State) (h : Held) → held_of s ≡ h → IsSmallSet h → IsReadable s
readable s h e small = let m = subst IsSmallSet (sym e) small in record { shape = m.shape; width = m.width; small = m.small }

-- the rows that changed the first input, and the second
first-changed : (r : Replica) → IsReplica r → (y : ℕ) (p : Process) → slice_get r.processes.items y ≡ Some (Some p) → (x z : ℕ) → AreInputs r y x z → (g : List Decl) (inputs base : Inputs) (old : State) (first second : List Row) → IsCopied r y p x z g inputs base old first second
    → HasChanged (content_of (arc_value base.first)) (content_of (arc_value inputs.first)) first
first-changed r ok y p found x z i g inputs base old first second c =
    let change = subst (λ (w : ℕ). HasChanged (content_of (arc_value base.first)) (held_at r.states w).content (rows_since (history_at (parts_of r).histories w) p.n)) i.first_is
    (kept-change-first (frame_of r) (entries_of r) ok.legal (parts_of r) ok.kept y (process-derived r ok y p found) (base_of p) (base-found r y (Some p) found) (read_of base) c.base_is) in
    subst (λ (w : List Row). HasChanged (content_of (arc_value base.first)) (content_of (arc_value inputs.first)) w) (sym c.first_is)
    (subst (λ (h : Held). HasChanged (content_of (arc_value base.first)) h.content (rows_since (history_at (parts_of r).histories x) p.n)) (sym c.first_in) change)

second-changed : (r : Replica) → IsReplica r → (y : ℕ) (p : Process) → slice_get r.processes.items y ≡ Some (Some p) → (x z : ℕ) → AreInputs r y x z → (g : List Decl) (inputs base : Inputs) (old : State) (first second : List Row) → IsCopied r y p x z g inputs base old first second
    → HasChanged (content_of (second_of base)) (content_of (second_of inputs)) second
second-changed r ok y p found x z i g inputs base old first second c =
    let change = subst (λ (w : ℕ). HasChanged (content_of (second_of base)) (held_at r.states w).content (rows_since (history_at (parts_of r).histories w) p.n)) i.second_is
    (kept-change-second (frame_of r) (entries_of r) ok.legal (parts_of r) ok.kept y (process-derived r ok y p found) (base_of p) (base-found r y (Some p) found) (read_of base) c.base_is) in
    subst (λ (w : List Row). HasChanged (content_of (second_of base)) (content_of (second_of inputs)) w) (sym c.second_is)
    (subst (λ (h : Held). HasChanged (content_of (second_of base)) h.content (rows_since (history_at (parts_of r).histories z) p.n)) (sym c.second_in) change)

state-of : (k : Kind) (before : List Content) (s first second : State) (h : Held) → held_of s ≡ h → content_of first ≡ content_at before (first_input k) → content_of second ≡ content_at before (second_input k) → IsOfItsKind k before h
    → IsStateOf k (content_of first) (content_of second) s
state-of k before s first second h e one two is =
    let m = subst (IsOfItsKind k before) (sym e) is in
    record {
      shape = m.shape;
      content = m.process_is ∙ (λ i. process k (sym one i) (sym two i));
      number = m.number;
    }

pub asked : (r : Replica) → IsReplica r → (y : ℕ) (p : Process) → slice_get r.processes.items y ≡ Some (Some p) → (x z : ℕ) → AreInputs r y x z → (g : List Decl) (inputs base : Inputs) (old : State) (first second : List Row) → IsCopied r y p x z g inputs base old first second
    → IsAsked g y inputs base old first second
asked r ok y p found x z i g inputs base old first second c =
    let X = frame_of r in
    let h = entries_of r in
    let d = process-derived r ok y p found in
    let b = base-found r y (Some p) found in
    let kind : kind_at (arc_value r.graph) y ≡ kind_at g y = ap (λ (l : List Decl). kind_at l y) (sym c.graph_is) in
    record {
      derived = subst (λ (l : List Decl). IsDerived l y) (sym c.graph_is) d;
      two = c.two ∙ ap has_two kind;
      base_two = c.base_is.two ∙ ap has_two kind;
      first_input = readable (arc_value inputs.first) (held_at r.states x) c.first_in (kept-width X h ok.legal (parts_of r) ok.kept x i.first_earlier.declared i.first_earlier.set);
      second_input = readable (second_of inputs) (held_at r.states z) c.second_in (kept-width X h ok.legal (parts_of r) ok.kept z i.second_earlier.declared i.second_earlier.set);
      first_set = c.base_is.first_set;
      second_set = c.base_is.second_set;
      first_change = (first-changed r ok y p found x z i g inputs base old first second c).change;
      second_change = (second-changed r ok y p found x z i g inputs base old first second c).change;
      state = subst (λ (k : Kind). IsStateOf k (content_of (arc_value base.first)) (content_of (second_of base)) old) kind
          (state-of (kind_at (arc_value r.graph) y) (vals X (take p.n h)) old (arc_value base.first) (second_of base) (held_at r.states y) c.old_is c.base_is.first c.base_is.second
          (kept-old X h ok.legal (parts_of r) ok.kept y d (base_of p) b));
    }

-- the job of these copies
pub record IsMade (job : Job) (y n : ℕ) (g : List Decl) (inputs base : Inputs) (old : State) (first second : List Row) : Type 0 where
  pub var : job.var ≡ y
  pub now : job.n ≡ n
  pub graph_is : arc_value job.graph ≡ g
  pub inputs_is : job.inputs ≡ inputs
  pub base_is : job.base ≡ base
  pub before_is : arc_value job.before ≡ old
  pub first_is : job.first ≡ first
  pub second_is : job.second ≡ second
  pub fresh : job.gain ≡ None

made-copied : (r : Replica) (y : ℕ) (p : Process) (x z : ℕ) (job : Job) (n : ℕ) (g : List Decl) (inputs base : Inputs) (old : State) (first second : List Row) → IsMade job y n g inputs base old first second → IsCopied r y p x z g inputs base old first second
    → IsCopied r y p x z (arc_value job.graph) job.inputs job.base (arc_value job.before) job.first job.second
made-copied r y p x z job n g inputs base old first second m c =
    subst (λ (w : List Decl). IsCopied r y p x z w job.inputs job.base (arc_value job.before) job.first job.second) (sym m.graph_is)
    (subst (λ (w : Inputs). IsCopied r y p x z g w job.base (arc_value job.before) job.first job.second) (sym m.inputs_is)
    (subst (λ (w : Inputs). IsCopied r y p x z g inputs w (arc_value job.before) job.first job.second) (sym m.base_is)
    (subst (λ (w : State). IsCopied r y p x z g inputs base w job.first job.second) (sym m.before_is)
    (subst (λ (w : List Row). IsCopied r y p x z g inputs base old w job.second) (sym m.first_is)
    (subst (λ (w : List Row). IsCopied r y p x z g inputs base old first w) (sym m.second_is) c)))))

-- what the process last read are its inputs as they were there
base-inputs : (r : Replica) → IsReplica r → (y : ℕ) (p : Process) → slice_get r.processes.items y ≡ Some (Some p) → (copy : Inputs) → IsReadAt r y p.n copy
    → AreInputsOf (kind_at (graph (frame_of r) (entries_of r)) y) (vals (frame_of r) (take (base (frame_of r) (entries_of r) y) (entries_of r))) copy
base-inputs r ok y p found copy read =
    let X = frame_of r in
    let h = entries_of r in
    let n : p.n ≡ base X h y = kept-base X h (parts_of r) ok.kept y (process-derived r ok y p found).declared (base_of p) (base-found r y (Some p) found) in
    record {
      two = read.two ∙ ap (λ (l : List Decl). has_two (kind_at l y)) ok.kept.graph;
      first = read.first ∙ (λ i. content_at (vals X (take (n i) h)) (first_input (kind_at (ok.kept.graph i) y)));
      second = read.second ∙ (λ i. content_at (vals X (take (n i) h)) (second_input (kind_at (ok.kept.graph i) y)));
    }

pub taken : (r : Replica) → IsReplica r → (y : ℕ) (p : Process) → slice_get r.processes.items y ≡ Some (Some p) → (x z : ℕ) → AreInputs r y x z → (job : Job) (g : List Decl) (inputs base : Inputs) (old : State) (first second : List Row)
    → IsCopied r y p x z g inputs base old first second → IsMade job y (length (entries_of r)) g inputs base old first second → IsJobNow (frame_of r) (entries_of r) y job
taken r ok y p found x z i job g inputs base old first second copied m =
    let X = frame_of r in
    let h = entries_of r in
    let c = made-copied r y p x z job (length h) g inputs base old first second m copied in
    let whole : take job.n h ≡ h = take_all job.n h (omega (arith, m.now)) in
    let g_is : arc_value job.graph ≡ graph X h = c.graph_is ∙ ok.kept.graph in
    let kind : kind_at (arc_value r.graph) y ≡ kind_at (graph X h) job.var = ap (λ (l : List Decl). kind_at l y) ok.kept.graph ∙ ap (kind_at (graph X h)) (sym m.var) in
    let same : (w : ℕ) → (held_at r.states w).content ≡ content_at (vals X (take job.n h)) w = λ w. held-val X h (parts_of r) ok.kept w ∙ ap (λ (l : List model.Entry). content_at (vals X l) w) (sym whole) in
    let own : IsOwn X h job = record {
      graph_is = g_is ∙ ap (graph X) (sym whole);
      before_is = ap (λ (w : Held). w.content) c.old_is ∙ same y ∙ ap (content_at (vals X (take job.n h))) (sym m.var);
    } in
    record {
      var = m.var;
      now = m.now;
      is = record {
        within = omega (arith, m.now);
        derived = subst (λ (l : List model.Entry). IsDerived (graph X l) job.var) (sym whole) (subst (λ (w : ℕ). IsDerived (graph X h) w) (sym m.var) (subst (λ (l : List Decl). IsDerived l y) ok.kept.graph (process-derived r ok y p found)));
        inputs = record {
          two = c.two ∙ ap has_two kind;
          first = ap (λ (w : Held). w.content) c.first_in ∙ same x ∙ ap (content_at (vals X (take job.n h))) (sym i.first_is ∙ ap first_input kind);
          second = ap (λ (w : Held). w.content) c.second_in ∙ same z ∙ ap (content_at (vals X (take job.n h))) (sym i.second_is ∙ ap second_input kind);
        };
        gained = λ _. own;
      };
      own = own;
      fresh = m.fresh;
      earlier = base-inputs r ok y p found job.base c.base_is;
      first = (first-changed r ok y p found x z i (arc_value job.graph) job.inputs job.base (arc_value job.before) job.first job.second c).rows_are;
      second = (second-changed r ok y p found x z i (arc_value job.graph) job.inputs job.base (arc_value job.before) job.first job.second c).rows_are;
    }
