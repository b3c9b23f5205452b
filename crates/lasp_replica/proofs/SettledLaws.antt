-- Which derived variables are clean, and which are busy, as a replica's processes and histories tell it.
use Rattle.std.proofs.Common.{ℕ, ◌≡◌, ◌<◌, ◌↔◌, ◌⊎◌, inl, inr, Bool, true, false, IsTrue, IsFalse, List, length, map, get_or, vec_len, Option, Some, None, refl, sym, ap, subst, ◌∙◌, arith}
use Rattle.std.specs.Option.{option_map}
use Rattle.std.specs.Prelude.{slice_get, slice_index_or}
use Rattle.std.specs.Arc.{arc_value}
use Rattle.std.proofs.lemmas.List.{length-map, length-take, get_or-map}
use Rattle.std.proofs.lemmas.Option.{slice_get-map, slice_get_within, get_or_from_slice_get, slice_get_read}
use Rattle.model_graph.specs.Graph.{Decl, Kind, OrSet, GSet, Counter, MaxReg, Union, Product, Intersection, Map, Filter, Fold, is_source, kind_at}
use Rattle.model_graph.specs.Lawful.{IsDerived, IsGraph}
use Rattle.model_journal.specs.Entry.{Entry, Frame}
use Rattle.model_journal.specs.Journal.{graph}
use Rattle.model_journal.specs.Clean.{IsClean, applied, version}
use Rattle.model_journal.proofs.JournalLaws.{journal-graph}
use Rattle.lasp_graph.specs.Evaluated.{inputs_of}
use Rattle.lasp_replica.specs.History.{no_history, version_before}
use Rattle.lasp_replica.specs.Kept.{Kept}
use Rattle.lasp_replica.specs.Parts.{Base, IsBaseAt, places_of, first_input, second_input, history_at, base_at}
use Rattle.lasp_replica.specs.Reading.{IsEarlierInput, IsStill}
use Rattle.lasp_replica.proofs.ReadLaws.{kept-inputs, kept-clean, kept-applied, kept-version}
use Rattle.lasp_replica.specs.declared.process.Process.{Process}
use Rattle.lasp_replica.specs.declared.refused.NotYet.{NotYet}
use Rattle.lasp_replica.specs.declared.replica.Replica.{Replica}
use Rattle.lasp_replica.specs.Replica.{base_of, jobs_of, told, frame_of, entries_of, busy_of, parts_of, growths_at, IsReplica}
use Rattle.lasp_replica.specs.Jobs.{IsUncleanAt, Lacks}

-- ---- what stands at a place

pub histories-many : (r : Replica) → IsReplica r → length r.histories.items ≡ length (arc_value r.graph)
histories-many r ok = sym (length-map r.histories.items told) ∙ ok.kept.histories_many

pub processes-many : (r : Replica) → IsReplica r → length r.processes.items ≡ length (arc_value r.graph)
processes-many r ok = sym (length-map r.processes.items (option_map base_of)) ∙ ok.kept.bases_many

pub history-found : (r : Replica) (x : ℕ) (k : Kept) → x < length r.histories.items → k ≡ get_or r.histories.items x k → history_at (parts_of r).histories x ≡ k.history
history-found r x k low is = get_or-map told r.histories.items x k no_history low ∙ sym (ap told is)

pub base-found : (r : Replica) (y : ℕ) (o : Option Process) → slice_get r.processes.items y ≡ Some o → base_at (parts_of r).bases y ≡ option_map base_of o
base-found r y o found =
    get_or_from_slice_get (map (option_map base_of) r.processes.items) y (option_map base_of o) None
    (slice_get-map (option_map base_of) r.processes.items y ∙ ap (option_map (option_map base_of)) found)

pub jobs-found : (r : Replica) (y : ℕ) (o : Option Process) → slice_get r.processes.items y ≡ Some o → slice_index_or (busy_of r) y 0 ≡ jobs_of o
jobs-found r y o found = get_or_from_slice_get (map jobs_of r.processes.items) y (jobs_of o) 0 (slice_get-map jobs_of r.processes.items y ∙ ap (option_map jobs_of) found)

pub process-at : (r : Replica) → IsReplica r → (y : ℕ) (found o : Option Process) → y < length (arc_value r.graph) → found ≡ get_or r.processes.items y found → found ≡ o → slice_get r.processes.items y ≡ Some o
process-at r ok y found o low at is = slice_get_read r.processes.items (length r.processes.items) y found refl (omega (arith, low, processes-many r ok)) at ∙ ap Some is

pub histories-len : (r : Replica) (x : ℕ) → x < length r.histories.items → x < vec_len r.histories
histories-len r x low = omega (arith, low, r.histories.ok)

-- ---- sources and processes

based-derived : (X : Frame) (h : List Entry) (k : Kind) (y : ℕ) (o : Option Base) (b : Base) → o ≡ Some b → IsBaseAt X h k y o → IsFalse (is_source k)
based-derived X h k y None b at there = cc
based-derived X h k y (Some c) b at there = there.0

unbased-source : (X : Frame) (h : List Entry) (k : Kind) (y : ℕ) (o : Option Base) → o ≡ None → IsBaseAt X h k y o → IsTrue (is_source k)
unbased-source X h k y None at there = there
unbased-source X h k y (Some c) at there = cc

process-low : (r : Replica) → IsReplica r → (y : ℕ) (o : Option Process) → slice_get r.processes.items y ≡ Some o → y < length (arc_value r.graph)
process-low r ok y o found = omega (arith, slice_get_within r.processes.items y o found, processes-many r ok)

-- a variable with a process is derived
pub process-derived : (r : Replica) → IsReplica r → (y : ℕ) (p : Process) → slice_get r.processes.items y ≡ Some (Some p) → IsDerived (arc_value r.graph) y
process-derived r ok y p found =
    let low = process-low r ok y (Some p) found in
    record { declared = low; process = based-derived (frame_of r) (entries_of r) (kind_at (arc_value r.graph) y) y (base_at (parts_of r).bases y) (base_of p) (base-found r y (Some p) found) (ok.kept.bases y low) }

-- one with none isn't
pub none-derived : (r : Replica) → IsReplica r → (y : ℕ) → slice_get r.processes.items y ≡ Some None → IsDerived (arc_value r.graph) y → ⊥
none-derived r ok y found d =
    let source = unbased-source (frame_of r) (entries_of r) (kind_at (arc_value r.graph) y) y (base_at (parts_of r).bases y) (base-found r y None found) (ok.kept.bases y d.declared) in
    let both : true ≡ false = sym source ∙ d.process in
    cc

pub unclean-derived : (r : Replica) → IsReplica r → (y : ℕ) → IsUncleanAt r y → IsDerived (arc_value r.graph) y
unclean-derived r ok y u = subst (λ (g : List Decl). IsDerived g y) (sym ok.kept.graph) u.derived

-- a variable's number is small
pub small-var : (r : Replica) → IsReplica r → (y n : ℕ) → y < n → n ≡ vec_len r.processes → y < 256
small-var r ok y n below end =
    let g = arc_value r.graph in
    let lawful : IsGraph g = subst IsGraph (sym ok.kept.graph) (journal-graph (frame_of r) (entries_of r) ok.legal) in
    let low : y < length g = omega (arith, below, end, r.processes.ok, processes-many r ok) in
    omega (arith, (lawful y low).room, length-take y g, low)

-- ---- inputs

-- a derived variable's inputs are earlier sets
pub record AreInputs (r : Replica) (y first second : ℕ) : Type 0 where
  pub first_is : first_input (kind_at (arc_value r.graph) y) ≡ first
  pub second_is : second_input (kind_at (arc_value r.graph) y) ≡ second
  pub first_earlier : IsEarlierInput (arc_value r.graph) y first
  pub second_earlier : IsEarlierInput (arc_value r.graph) y second
  pub first_kept : first < length r.histories.items
  pub second_kept : second < length r.histories.items

pub inputs-known : (r : Replica) → IsReplica r → (y : ℕ) → IsDerived (arc_value r.graph) y → (first second : ℕ) → inputs_of (kind_at (arc_value r.graph) y) ≡ Some (first, second) → AreInputs r y first second
inputs-known r ok y d first second e =
    let one : first_input (kind_at (arc_value r.graph) y) ≡ first = ap (λ (o : Option (ℕ × ℕ)). (places_of o).0) e in
    let two : second_input (kind_at (arc_value r.graph) y) ≡ second = ap (λ (o : Option (ℕ × ℕ)). (places_of o).1) e in
    let both = kept-inputs (frame_of r) (entries_of r) ok.legal (parts_of r) ok.kept y d in
    let a = subst (λ (x : ℕ). IsEarlierInput (arc_value r.graph) y x) one both.0 in
    let b = subst (λ (x : ℕ). IsEarlierInput (arc_value r.graph) y x) two both.1 in
    record {
      first_is = one;
      second_is = two;
      first_earlier = a;
      second_earlier = b;
      first_kept = omega (arith, a.declared, histories-many r ok);
      second_kept = omega (arith, b.declared, histories-many r ok);
    }

-- the inputs that a kind tells
pub inputs-at : (g u : List Decl) (y : ℕ) (k : Kind) (o : Option (ℕ × ℕ)) (p : ℕ × ℕ) → u ≡ g → kind_at u y ≡ k → o ≡ inputs_of k → o ≡ Some p → inputs_of (kind_at g y) ≡ Some p
inputs-at g u y k o p same kind told is = ap (λ (l : List Decl). inputs_of (kind_at l y)) (sym same) ∙ ap inputs_of kind ∙ sym told ∙ is

pub kind-from : (g u : List Decl) (v y : ℕ) (k : Kind) → u ≡ g → v ≡ y → kind_at u v ≡ k → kind_at g y ≡ k
kind-from g u v y k same number kind = ap (λ (l : List Decl). kind_at l y) (sym same) ∙ ap (kind_at u) (sym number) ∙ kind

pub inputs-from : (g u : List Decl) (v y : ℕ) (k : Kind) (o : Option (ℕ × ℕ)) (p : ℕ × ℕ) → u ≡ g → v ≡ y → kind_at u v ≡ k → o ≡ inputs_of k → o ≡ Some p → inputs_of (kind_at g y) ≡ Some p
inputs-from g u v y k o p same number kind told is = inputs-at g u y k o p same (ap (kind_at u) (sym number) ∙ kind) told is

-- a derived variable has inputs
pub derived-inputs : (k : Kind) → IsFalse (is_source k) → inputs_of k ≡ None → ⊥
derived-inputs OrSet d e = cc
derived-inputs GSet d e = cc
derived-inputs Counter d e = cc
derived-inputs MaxReg d e = cc
derived-inputs (Union x y) d e = cc
derived-inputs (Product x y) d e = cc
derived-inputs (Intersection x y) d e = cc
derived-inputs (Map x place ops) d e = cc
derived-inputs (Filter x place ops) d e = cc
derived-inputs (Fold x op place lift) d e = cc

pub inputs-none : (r : Replica) (y : ℕ) → IsDerived (arc_value r.graph) y → (u : List Decl) (v : ℕ) (k : Kind) (o : Option (ℕ × ℕ)) → u ≡ arc_value r.graph → v ≡ y → kind_at u v ≡ k → o ≡ inputs_of k → o ≡ None → ⊥
inputs-none r y d u v k o same number kind told is =
    let k_is : kind_at (arc_value r.graph) y ≡ k = ap (λ (l : List Decl). kind_at l y) (sym same) ∙ ap (kind_at u) (sym number) ∙ kind in
    derived-inputs k (sym (ap is_source k_is) ∙ d.process) (sym told ∙ is)

-- ---- clean

-- a process is clean where both of its inputs stand still
pub still-clean : (r : Replica) → IsReplica r → (y : ℕ) (p : Process) → slice_get r.processes.items y ≡ Some (Some p) → (first second : ℕ) → AreInputs r y first second
    → IsClean (frame_of r) (entries_of r) y ↔ (IsStill (parts_of r) p.n first × IsStill (parts_of r) p.n second)
still-clean r ok y p found first second i =
    subst (λ (x : ℕ). IsClean (frame_of r) (entries_of r) y ↔ (IsStill (parts_of r) p.n x × IsStill (parts_of r) p.n second)) i.first_is
    (subst (λ (x : ℕ). IsClean (frame_of r) (entries_of r) y ↔ (IsStill (parts_of r) p.n (first_input (kind_at (arc_value r.graph) y)) × IsStill (parts_of r) p.n x)) i.second_is
    (kept-clean (frame_of r) (entries_of r) ok.legal (parts_of r) ok.kept y (process-derived r ok y p found) (base_of p) (base-found r y (Some p) found)))

-- what a history says of the growths since
pub still-told : (r : Replica) (x : ℕ) (k : Kept) → x < length r.histories.items → k ≡ get_or r.histories.items x k → (n : ℕ) (b : Bool) → (IsTrue b ↔ (version_before k.history.growths n ≡ length k.history.growths)) → IsTrue b ↔ IsStill (parts_of r) n x
still-told r x k low is n b e = subst (λ h. IsTrue b ↔ (version_before h.growths n ≡ length h.growths)) (sym (history-found r x k low is)) e

pub clean-then : (b c : Bool) (P Q R : Type 0) → IsTrue b → IsTrue b ↔ P → IsTrue c ↔ Q → R ↔ (P × Q) → IsTrue c ↔ R
clean-then b c P Q R t p q e = (λ s. e.1 (p.0 t, q.0 s), λ r. q.1 (e.0 r).1)

pub clean-else : (b : Bool) (P Q R : Type 0) → IsFalse b → IsTrue b ↔ P → R ↔ (P × Q) → IsTrue b ↔ R
clean-else b P Q R f p e = (λ s. absurd (let both : true ≡ false = sym s ∙ f in cc), λ r. p.1 (e.0 r).0)

-- a source lacks nothing
pub clean-source : (r : Replica) → IsReplica r → (y : ℕ) → slice_get r.processes.items y ≡ Some None → IsTrue true ↔ (IsUncleanAt r y → ⊥)
clean-source r ok y found = (λ t u. none-derived r ok y found (unclean-derived r ok y u), λ f. refl)

-- ---- what is lacking

-- an input that doesn't stand still is lacking
lacks-input : (r : Replica) → IsReplica r → (y : ℕ) (p : Process) → slice_get r.processes.items y ≡ Some (Some p) → (x : ℕ) → x < length (arc_value r.graph) → (why : NotYet)
    → (why.var ≡ y) × (why.input ≡ x) → why.applied ≡ version_before (growths_at r x) p.n → why.present ≡ length (growths_at r x) → (IsStill (parts_of r) p.n x → ⊥)
    → (x ≡ first_input (kind_at (graph (frame_of r) (entries_of r)) y)) ⊎ ((x ≡ second_input (kind_at (graph (frame_of r) (entries_of r)) y)) × (applied (frame_of r) (entries_of r) y (first_input (kind_at (graph (frame_of r) (entries_of r)) y)) ≡ version (frame_of r) (entries_of r) (first_input (kind_at (graph (frame_of r) (entries_of r)) y))))
    → Lacks (frame_of r) (entries_of r) y why
lacks-input r ok y p found x low why names old new moved place =
    let X = frame_of r in
    let h = entries_of r in
    record {
      var = names.0;
      input = subst (λ (z : ℕ). (z ≡ first_input (kind_at (graph X h) y)) ⊎ ((z ≡ second_input (kind_at (graph X h) y)) × (applied X h y (first_input (kind_at (graph X h) y)) ≡ version X h (first_input (kind_at (graph X h) y))))) (sym names.1) place;
      applied_is = old ∙ sym (kept-applied X h ok.legal (parts_of r) ok.kept y (process-low r ok y (Some p) found) (base_of p) (base-found r y (Some p) found) x low) ∙ ap (λ (z : ℕ). applied X h y z) (sym names.1);
      present_is = new ∙ sym (kept-version X h (parts_of r) ok.kept x low) ∙ ap (λ (z : ℕ). version X h z) (sym names.1);
      differs = λ e. moved (sym old ∙ e ∙ new);
    }

pub lacks-first : (r : Replica) → IsReplica r → (y : ℕ) (p : Process) → slice_get r.processes.items y ≡ Some (Some p) → (first second : ℕ) → AreInputs r y first second → (why : NotYet)
    → (why.var ≡ y) × (why.input ≡ first) → why.applied ≡ version_before (growths_at r first) p.n → why.present ≡ length (growths_at r first)
    → (b : Bool) → IsFalse b → IsTrue b ↔ IsStill (parts_of r) p.n first → Lacks (frame_of r) (entries_of r) y why
lacks-first r ok y p found first second i why names old new b f told =
    lacks-input r ok y p found first i.first_earlier.declared why names old new (λ s. let both : true ≡ false = sym (told.1 s) ∙ f in cc)
    (inl (sym i.first_is ∙ ap (λ (g : List Decl). first_input (kind_at g y)) ok.kept.graph))

pub lacks-second : (r : Replica) → IsReplica r → (y : ℕ) (p : Process) → slice_get r.processes.items y ≡ Some (Some p) → (first second : ℕ) → AreInputs r y first second → (why : NotYet)
    → (why.var ≡ y) × (why.input ≡ second) → why.applied ≡ version_before (growths_at r second) p.n → why.present ≡ length (growths_at r second)
    → (b : Bool) → IsTrue b → IsTrue b ↔ IsStill (parts_of r) p.n first → IsUncleanAt r y → Lacks (frame_of r) (entries_of r) y why
lacks-second r ok y p found first second i why names old new b t told u =
    let X = frame_of r in
    let h = entries_of r in
    let same : applied X h y first ≡ version X h first =
    kept-applied X h ok.legal (parts_of r) ok.kept y (process-low r ok y (Some p) found) (base_of p) (base-found r y (Some p) found) first i.first_earlier.declared
    ∙ told.0 t ∙ sym (kept-version X h (parts_of r) ok.kept first i.first_earlier.declared) in
    lacks-input r ok y p found second i.second_earlier.declared why names old new
    (λ s. u.lacks ((still-clean r ok y p found first second i).1 (told.0 t, s)))
    (inr (
      sym i.second_is ∙ ap (λ (g : List Decl). second_input (kind_at g y)) ok.kept.graph,
      subst (λ (x : ℕ). applied X h y x ≡ version X h x) (sym i.first_is ∙ ap (λ (g : List Decl). first_input (kind_at g y)) ok.kept.graph) same,
    ))
