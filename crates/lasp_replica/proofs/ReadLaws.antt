-- What the kept parts tell of the journal: which processes are clean, what changed since a process last read, and what it had then.
use Rattle.std.proofs.Common.{◌≡◌, ℕ, ◌≤◌, ◌<◌, max, ◌⊎◌, inl, inr, ◌↔◌, Bool, true, false, if◌then◌else◌, nat_lt, IsTrue, List, [], length, take, drop, Option, Some, None, refl, sym, ap, subst, ◌∙◌, arith}
use Rattle.std.proofs.lemmas.Bool.Decides.{nat_tests}
use Rattle.model_values.specs.Row.{Row}
use Rattle.model_values.proofs.ListLaws.{length-take_least}
use Rattle.model_sets.specs.Rows.{mark, IsAscending, of_rows, join, IsAtMost}
use Rattle.model_sets.specs.Equations.{changed}
use Rattle.model_sets.proofs.RowLaws.{same_from_mark, mark-join}
use Rattle.model_sets.proofs.EquationLaws.{changed-mark, ascending-changed}
use Rattle.model_states.specs.Threshold.{Shape}
use Rattle.model_states.specs.Shape.{HasShape}
use Rattle.model_states.specs.Content.{Content, least, of_set, IsContentAtMost, at_row, at_value, at_count, at_top, size_of, row_limit}
use Rattle.model_graph.specs.Graph.{Decl, Kind, OrSet, GSet, Counter, MaxReg, Union, Product, Intersection, Map, Filter, Fold, IsInput, is_set, kind_at}
use Rattle.model_graph.specs.Evaluation.{equation}
use Rattle.model_graph.specs.Lawful.{IsDerived, IsGraph}
use Rattle.model_graph.specs.Width.{HasWidth}
use Rattle.model_graph.proofs.PlaceLaws.{below-or-not, at-past}
use Rattle.model_journal.specs.Entry.{Entry, Frame}
use Rattle.model_journal.specs.Journal.{graph, vals, val}
use Rattle.model_journal.specs.Clean.{version, applied, base, IsClean}
use Rattle.model_journal.specs.Legal.{IsLegal}
use Rattle.model_journal.proofs.GraphLaws.{input-set}
use Rattle.model_journal.proofs.JournalLaws.{journal-graph}
use Rattle.model_journal.proofs.LegalLaws.{legal-take}
use Rattle.model_journal.proofs.CleanLaws.{val-based, vals-length}
use Rattle.model_journal.proofs.WordLaws.{applied-base}
use Rattle.model_core.proofs.BaseLaws.{base-within, vals-take, kind-take}
use Rattle.model_core.proofs.ValidLaws.{val-width, val-small, was-shape}
use Rattle.lasp_replica.specs.History.{version_before, rows_before}
use Rattle.model_sets.proofs.RiseLaws.{nothing-changed}
use Rattle.lasp_replica.proofs.HistoryLaws.{history-version, history-rows, history-changed, history-change}
use Rattle.lasp_graph.specs.States.{held_at}
use Rattle.lasp_graph.specs.Evaluated.{process}
use Rattle.lasp_replica.specs.Parts.{Read, Base, Parts, IsRead, IsBase, IsBaseAt, base_at, history_at, first_input, second_input, IsKept}
use Rattle.lasp_replica.specs.Reading.{IsEarlierInput, IsStill, rows_since, HasChanged, IsOfItsKind, IsSmallSet}
use Rattle.lasp_replica.proofs.KindLaws.{first-input, second-input, input-only, equation-process, shape-derived, shape-set}
use Rattle.lasp_replica.proofs.PartLaws.{held-val}

-- ---- inputs

pub input-earlier : (g : List Decl) → IsGraph g → (y x : ℕ) → y < length g → IsInput (kind_at g y) x → IsEarlierInput g y x
input-earlier g lawful y x low i =
    let below : x < length (take y g) = (lawful y low).earlier x i in
    record { earlier = omega (arith, below, length-take_least g y); declared = omega (arith, below, length-take_least g y, low); set = input-set g lawful y x i }

pub kept-input : (X : Frame) (h : List Entry) → IsLegal X h → (p : Parts) → IsKept X h p → (y x : ℕ) → y < length p.graph → IsInput (kind_at p.graph y) x → IsEarlierInput p.graph y x
kept-input X h legal p is y x low i = input-earlier p.graph (subst IsGraph (sym is.graph) (journal-graph X h legal)) y x low i

-- both inputs of a process are earlier sets
pub kept-inputs : (X : Frame) (h : List Entry) → IsLegal X h → (p : Parts) → IsKept X h p → (y : ℕ) → IsDerived p.graph y
    → IsEarlierInput p.graph y (first_input (kind_at p.graph y)) × IsEarlierInput p.graph y (second_input (kind_at p.graph y))
kept-inputs X h legal p is y d = (
  kept-input X h legal p is y (first_input (kind_at p.graph y)) d.declared (first-input (kind_at p.graph y) d.process),
  kept-input X h legal p is y (second_input (kind_at p.graph y)) d.declared (second-input (kind_at p.graph y) d.process),
)

-- ---- bases

-- a process has a base
pub kept-based : (X : Frame) (h : List Entry) (p : Parts) → IsKept X h p → (y : ℕ) → IsDerived p.graph y → (b : Base) × (base_at p.bases y ≡ Some b)
kept-based X h p is y d = choose (base_at p.bases y) refl (is.bases y d.declared) where
  choose : (o : Option Base) → base_at p.bases y ≡ o → IsBaseAt X h (kind_at p.graph y) y o → (b : Base) × (base_at p.bases y ≡ Some b)
  choose None at source = absurd (let both : true ≡ false = sym source ∙ d.process in cc)
  choose (Some b) at there = (b, at)

base-facts : (X : Frame) (h : List Entry) (p : Parts) → IsKept X h p → (y : ℕ) → y < length p.graph → (b : Base) → base_at p.bases y ≡ Some b → IsBaseAt X h (kind_at p.graph y) y (Some b)
base-facts X h p is y low b at = subst (IsBaseAt X h (kind_at p.graph y) y) at (is.bases y low)

-- what a process last read is the journal's base
pub kept-base : (X : Frame) (h : List Entry) (p : Parts) → IsKept X h p → (y : ℕ) → y < length p.graph → (b : Base) → base_at p.bases y ≡ Some b → b.entries ≡ base X h y
kept-base X h p is y low b at = (base-facts X h p is y low b at).1

pub kept-within : (X : Frame) (h : List Entry) → IsLegal X h → (p : Parts) → IsKept X h p → (y : ℕ) → y < length p.graph → (b : Base) → base_at p.bases y ≡ Some b → b.entries ≤ length h
kept-within X h legal p is y low b at = omega (arith, kept-base X h p is y low b at, base-within X h legal y)

-- the inputs that it read
pub kept-read : (X : Frame) (h : List Entry) (p : Parts) → IsKept X h p → (y : ℕ) → y < length p.graph → (b : Base) → base_at p.bases y ≡ Some b → IsBase (kind_at p.graph y) (vals X (take b.entries h)) b
kept-read X h p is y low b at = (base-facts X h p is y low b at).2

-- ---- versions

pub kept-applied : (X : Frame) (h : List Entry) → IsLegal X h → (p : Parts) → IsKept X h p → (y : ℕ) → y < length p.graph → (b : Base) → base_at p.bases y ≡ Some b
    → (x : ℕ) → x < length p.graph → applied X h y x ≡ version_before (history_at p.histories x).growths b.entries
kept-applied X h legal p is y low b at x there =
    applied-base X h legal y x
    ∙ ap (λ (n : ℕ). version X (take n h) x) (sym (kept-base X h p is y low b at))
    ∙ (is.histories x there).versions b.entries (kept-within X h legal p is y low b at)

pub kept-version : (X : Frame) (h : List Entry) (p : Parts) → IsKept X h p → (x : ℕ) → x < length p.graph → version X h x ≡ length (history_at p.histories x).growths
kept-version X h p is x there = history-version X h x (history_at p.histories x) (is.histories x there)

-- a process is clean exactly where neither input grew since it was read
pub kept-clean : (X : Frame) (h : List Entry) → IsLegal X h → (p : Parts) → IsKept X h p → (y : ℕ) → IsDerived p.graph y → (b : Base) → base_at p.bases y ≡ Some b
    → IsClean X h y ↔ (IsStill p b.entries (first_input (kind_at p.graph y)) × IsStill p b.entries (second_input (kind_at p.graph y)))
kept-clean X h legal p is y d b at = (λ clean. (still clean first (first-input k d.process), still clean second (second-input k d.process)), λ both x i. back both x (there x i) (input-only k x (here x i))) where
  k : Kind
  k = kind_at p.graph y

  first : ℕ
  first = first_input k

  second : ℕ
  second = second_input k

  kinds : k ≡ kind_at (graph X h) y
  kinds = ap (λ (g : List Decl). kind_at g y) is.graph

  here : (x : ℕ) → IsInput (kind_at (graph X h) y) x → IsInput k x
  here x i = subst (λ (j : Kind). IsInput j x) (sym kinds) i

  there : (x : ℕ) → IsInput (kind_at (graph X h) y) x → x < length p.graph
  there x i = (kept-input X h legal p is y x d.declared (here x i)).declared

  still : IsClean X h y → (x : ℕ) → IsInput k x → IsStill p b.entries x
  still clean x i =
      let low : x < length p.graph = (kept-input X h legal p is y x d.declared i).declared in
      sym (kept-applied X h legal p is y d.declared b at x low) ∙ clean x (subst (λ (j : Kind). IsInput j x) kinds i) ∙ kept-version X h p is x low

  same : (x : ℕ) → x < length p.graph → IsStill p b.entries x → applied X h y x ≡ version X h x
  same x low e = kept-applied X h legal p is y d.declared b at x low ∙ e ∙ sym (kept-version X h p is x low)

  back : IsStill p b.entries first × IsStill p b.entries second → (x : ℕ) → x < length p.graph → (x ≡ first) ⊎ (x ≡ second) → applied X h y x ≡ version X h x
  back both x low (inl e) = same x low (subst (IsStill p b.entries) (sym e) both.0)
  back both x low (inr e) = same x low (subst (IsStill p b.entries) (sym e) both.1)

-- ---- what changed since a process last read

-- a set's log has what changed since the first n entries
pub kept-changed : (X : Frame) (h : List Entry) (p : Parts) → IsKept X h p → (x : ℕ) → x < length p.graph → IsTrue (is_set (kind_at p.graph x)) → (n : ℕ) → n ≤ length h
    → HasChanged (val X (take n h) x) (held_at p.states x).content (rows_since (history_at p.histories x) n)
kept-changed X h p is x low flat n within = subst (λ (s : Content). HasChanged (val X (take n h) x) s (rows_since (history_at p.histories x) n)) (sym (held-val X h p is x)) (record {
  rows_are = history-changed X h x (history_at p.histories x) (is.histories x low) there n within;
  change = history-change X h x (history_at p.histories x) (is.histories x low) there n within;
  more = vals-take X h n x;
}) where
  there : IsTrue (is_set (kind_at (graph X h) x))
  there = subst (λ (g : List Decl). IsTrue (is_set (kind_at g x))) is.graph flat

-- of the first input
pub kept-change-first : (X : Frame) (h : List Entry) → IsLegal X h → (p : Parts) → IsKept X h p → (y : ℕ) → IsDerived p.graph y → (b : Base) → base_at p.bases y ≡ Some b → (r : Read) → IsRead (kind_at p.graph y) (vals X (take b.entries h)) r
    → HasChanged r.first.content (held_at p.states (first_input (kind_at p.graph y))).content (rows_since (history_at p.histories (first_input (kind_at p.graph y))) b.entries)
kept-change-first X h legal p is y d b at r read =
    let x = first_input (kind_at p.graph y) in
    let input = (kept-inputs X h legal p is y d).0 in
    subst (λ (s : Content). HasChanged s (held_at p.states x).content (rows_since (history_at p.histories x) b.entries)) (sym read.first)
    (kept-changed X h p is x input.declared input.set b.entries (kept-within X h legal p is y d.declared b at))

-- of the second input
pub kept-change-second : (X : Frame) (h : List Entry) → IsLegal X h → (p : Parts) → IsKept X h p → (y : ℕ) → IsDerived p.graph y → (b : Base) → base_at p.bases y ≡ Some b → (r : Read) → IsRead (kind_at p.graph y) (vals X (take b.entries h)) r
    → HasChanged r.second.content (held_at p.states (second_input (kind_at p.graph y))).content (rows_since (history_at p.histories (second_input (kind_at p.graph y))) b.entries)
kept-change-second X h legal p is y d b at r read =
    let x = second_input (kind_at p.graph y) in
    let input = (kept-inputs X h legal p is y d).1 in
    subst (λ (s : Content). HasChanged s (held_at p.states x).content (rows_since (history_at p.histories x) b.entries)) (sym read.second)
    (kept-changed X h p is x input.declared input.set b.entries (kept-within X h legal p is y d.declared b at))

-- a set has rows alone, at each time
was-flat : (X : Frame) (h : List Entry) → IsLegal X h → (n x : ℕ) → IsTrue (is_set (kind_at (graph X h) x)) → val X (take n h) x ≡ of_set (val X (take n h) x).rows
was-flat X h legal n x flat = choose (below-or-not x (length (graph X (take n h)))) where
  choose : (x < length (graph X (take n h))) ⊎ (length (graph X (take n h)) ≤ x) → val X (take n h) x ≡ of_set (val X (take n h) x).rows
  choose (inl low) =
      let kind : IsTrue (is_set (kind_at (graph X (take n h)) x)) = subst (λ (k : Kind). IsTrue (is_set k)) (kind-take X h n x low) flat in
      subst (λ (s : Shape). HasShape s (val X (take n h) x)) (shape-set X.nodes (kind_at (graph X (take n h)) x) kind) (was-shape X h legal n x)
  choose (inr past) =
      let none : val X (take n h) x ≡ least = at-past (vals X (take n h)) x least (omega (arith, vals-length X (take n h) (legal-take X h n legal), past)) in
      none ∙ ap (λ (s : Content). of_set s.rows) (sym none)

-- the rows of its log by then
pub kept-was : (X : Frame) (h : List Entry) → IsLegal X h → (p : Parts) → IsKept X h p → (x : ℕ) → x < length p.graph → IsTrue (is_set (kind_at p.graph x)) → (n : ℕ) → n ≤ length h
    → val X (take n h) x ≡ of_set (of_rows (take (rows_before (history_at p.histories x).growths n) (history_at p.histories x).log))
kept-was X h legal p is x low flat n within =
    let there : IsTrue (is_set (kind_at (graph X h) x)) = subst (λ (g : List Decl). IsTrue (is_set (kind_at g x))) is.graph flat in
    was-flat X h legal n x there ∙ ap of_set ((is.histories x low).rows there n within)

-- all rows of a set are those of its log
pub kept-rows : (X : Frame) (h : List Entry) (p : Parts) → IsKept X h p → (x : ℕ) → x < length p.graph → IsTrue (is_set (kind_at p.graph x)) → (held_at p.states x).content.rows ≡ of_rows (history_at p.histories x).log
kept-rows X h p is x low flat =
    ap (λ (s : Content). s.rows) (held-val X h p is x)
    ∙ history-rows X h x (history_at p.histories x) (is.histories x low) (subst (λ (g : List Decl). IsTrue (is_set (kind_at g x))) is.graph flat)

-- where no row had changed it, all of them did since
pub kept-all : (X : Frame) (h : List Entry) (p : Parts) → IsKept X h p → (x : ℕ) → x < length p.graph → IsTrue (is_set (kind_at p.graph x)) → (n : ℕ) → rows_before (history_at p.histories x).growths n ≡ 0
    → (held_at p.states x).content.rows ≡ rows_since (history_at p.histories x) n
kept-all X h p is x low flat n none =
    let log = (history_at p.histories x).log in
    kept-rows X h p is x low flat ∙ ap of_rows (let zero : drop 0 log ≡ log = refl in sym zero) ∙ ap (λ (m : ℕ). of_rows (drop m log)) (sym none)

-- ---- what a process had then

pub kept-old : (X : Frame) (h : List Entry) → IsLegal X h → (p : Parts) → IsKept X h p → (y : ℕ) → IsDerived p.graph y → (b : Base) → base_at p.bases y ≡ Some b
    → IsOfItsKind (kind_at p.graph y) (vals X (take b.entries h)) (held_at p.states y)
kept-old X h legal p is y d b at = record {
  equation_is = old;
  process_is = old ∙ equation-process k before;
  shape = is.shapes y d.declared ∙ shape-derived X.nodes k d.process;
  number = is.numbers y d;
} where
  k : Kind
  k = kind_at p.graph y

  before : List Content
  before = vals X (take b.entries h)

  old : (held_at p.states y).content ≡ equation k before
  old =
      held-val X h p is y
      ∙ val-based X h legal y (subst (λ (g : List Decl). IsDerived g y) is.graph d)
      ∙ ap (λ (g : List Decl). equation (kind_at g y) (vals X (take (base X h y) h))) (sym is.graph)
      ∙ ap (λ (n : ℕ). equation k (vals X (take n h))) (sym (kept-base X h p is y d.declared b at))

-- ---- limits

pub kept-width : (X : Frame) (h : List Entry) → IsLegal X h → (p : Parts) → IsKept X h p → (x : ℕ) → x < length p.graph → IsTrue (is_set (kind_at p.graph x)) → IsSmallSet (held_at p.states x)
kept-width X h legal p is x low flat = record {
  width = subst (HasWidth 16) (sym (held-val X h p is x)) (val-width X h legal x);
  small = subst (λ (s : Content). size_of s ≤ row_limit) (sym (held-val X h p is x)) (val-small X h legal x);
  shape = is.shapes x low ∙ shape-set X.nodes (kind_at p.graph x) flat;
}

-- ---- news by what was gained

gain-number : (old present gain : ℕ) → old ≤ present → (if nat_lt present (max old gain) then max old gain else 0) ≡ (if nat_lt present gain then gain else 0)
gain-number old present gain low = choose (nat_lt present gain) refl (nat_lt present (max old gain)) refl where
  choose : (a : Bool) → nat_lt present gain ≡ a → (b : Bool) → nat_lt present (max old gain) ≡ b → (if b then max old gain else 0) ≡ (if a then gain else 0)
  choose true s true t =
      let up : present < gain = grind (arith, nat_tests, s) in
      omega (arith, low, up)
  choose true s false t =
      let up : present < gain = grind (arith, nat_tests, s) in
      let down : max old gain ≤ present = grind (arith, nat_tests, t) in
      absurd (omega (arith, up, down))
  choose false s true t =
      let down : gain ≤ present = grind (arith, nat_tests, s) in
      let up : present < max old gain = grind (arith, nat_tests, t) in
      absurd (omega (arith, up, down, low))
  choose false s false t = refl

-- what is new of rows that were gained is what is new of all, where what stood before is present
pub news-by-gain : (old present gain : List Row) → IsAtMost old present → IsAscending gain → IsAscending (join old gain) → changed present (join old gain) ≡ changed present gain
news-by-gain old present gain low ascends both = same_from_mark (changed present (join old gain)) (changed present gain) (ascending-changed present (join old gain) both) (ascending-changed present gain ascends)
    (λ v w. changed-mark present (join old gain) v w
    ∙ ap (λ (n : ℕ). if nat_lt (mark present v w) n then n else 0) (mark-join old gain v w)
    ∙ gain-number (mark old v w) (mark present v w) (mark gain v w) (low v w)
    ∙ sym (changed-mark present gain v w))

-- what a process gives is a set
pub process-set : (k : Kind) (x y : Content) → process k x y ≡ of_set (process k x y).rows
process-set OrSet x y = refl
process-set GSet x y = refl
process-set Counter x y = refl
process-set MaxReg x y = refl
process-set (Union i j) x y = refl
process-set (Product i j) x y = refl
process-set (Intersection i j) x y = refl
process-set (Map i place ops) x y = refl
process-set (Filter i place ops) x y = refl
process-set (Fold i op place lift) x y = refl

set-below : (s : Content) (rows : List Row) → IsAtMost rows s.rows → IsContentAtMost (of_set rows) s
set-below s rows low (at_row v w) = low v w
set-below s rows low (at_value v) = omega arith
set-below s rows low (at_count q) = omega arith
set-below s rows low (at_top n) = omega arith

-- a set brings nothing new exactly where it is at most what stands
pub news-none : (s t : Content) → t ≡ of_set t.rows → (changed s.rows t.rows ≡ []) ↔ IsContentAtMost t s
news-none s t flat = (
  λ none. subst (λ (c : Content). IsContentAtMost c s) (sym flat) (set-below s t.rows ((nothing-changed s.rows t.rows).0 none)),
  λ low. (nothing-changed s.rows t.rows).1 (λ v w. low (at_row v w)),
)
