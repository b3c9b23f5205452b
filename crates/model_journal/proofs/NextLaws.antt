-- What holds of every journal is kept by each lawful entry.
use Rattle.std.proofs.Common.{◌≡◌, ℕ, ◌+◌, ◌≤◌, ◌<◌, max, ◌⊎◌, inl, inr, Bool, true, false, if◌then◌else◌, ◌==◌, IsTrue, IsFalse, [], ◌∷◌, ◌++◌, length, Option, Some, None, refl, sym, ap, subst, ◌∙◌, arith}
use Rattle.std.proofs.lemmas.Bool.Decides.{nat_tests}
use Rattle.std.proofs.lemmas.Bool.{eq-eqb}
use Rattle.model_states.specs.Content.{Content, least, join_contents, IsOrdered}
use Rattle.model_states.specs.Update.{Op, Add, Remove, Insert, Inc, Max, Join}
use Rattle.model_states.proofs.ContentLaws.{join-above, join-below}
use Rattle.model_graph.specs.Graph.{Kind, Decl, is_source, is_set, kind_at, decl_at, no_decl, IsInput}
use Rattle.model_graph.specs.Evaluation.{least_of, content_at, equation}
use Rattle.model_graph.specs.Lawful.{IsGraph, IsDerived}
use Rattle.model_graph.proofs.PlaceLaws.{at-append, at-last, length-append, below-or-not, equal-numbers}
use Rattle.model_graph.proofs.EquationLaws.{equation-ordered, equation-monotone, equation-least}
use Rattle.model_graph.proofs.EvalLaws.{graph-earlier}
pub use Rattle.model_graph.proofs.LeastLaws.{equation-flat}
use Rattle.model_graph.specs.Message.{with_gain, gained}
use Rattle.model_journal.specs.Entry.{Act, Update, Deliver, Bind, Extend, Entry, Frame}
use Rattle.model_journal.specs.Journal.{Snapshot, Journal, snapshot_at, gain, opened, contents_after, graph_after, snapshot_after, binds_after, next}
use Rattle.model_journal.specs.Clean.{greatest_bound}
use Rattle.model_journal.specs.Legal.{IsOpOf, IsLawful}
use Rattle.model_journal.proofs.PlaceLaws.{at-more, at-kept}
use Rattle.model_graph.proofs.MessageLaws.{gained-length}
use Rattle.model_journal.proofs.GainLaws.{least_of-derived}
use Rattle.model_journal.proofs.GraphLaws.{graph-push, input-set, graph-keeps}
use Rattle.model_journal.proofs.StepLaws.{after-at, after-ordered, opened-length, IsLater, later-itself, later-chain, step-later}
use Rattle.model_journal.proofs.GoodLaws.{IsGood, to-now, now-tidy, set-bottom}

next-order : (X : Frame) (j : Journal) (e : Entry) → IsGood X j → (i k : ℕ) → i ≤ k → IsLater (snapshot_at (next X j e) i) (snapshot_at (next X j e) k)
next-order X j e good i k h =
    at-more (λ (b : Snapshot). IsLater (snapshot_at (next X j e) i) b) j.past j.now new k
    (λ low. at-more (λ (a : Snapshot). IsLater a (snapshot_at j k)) j.past j.now new i (λ g. good.order i k h) (λ g. absurd (omega (arith, g, low, h))))
    (λ high. at-more (λ (a : Snapshot). IsLater a new) j.past j.now new i (λ g. later-chain (snapshot_at j i) j.now new (to-now X j good i) (step-later X j e.act)) (λ g. later-itself new)) where
      new : Snapshot
      new = snapshot_after X j e.act

next-shape : (X : Frame) (j : Journal) (act : Act) → IsGood X j → length (contents_after X j act) ≡ length (graph_after j.now.graph act)
next-shape X j act good = omega (arith, good.shape, length-append (gained (gain X j act) 0 j.now.contents) (opened X.nodes act), gained-length (gain X j act) 0 j.now.contents, opened-length X.nodes j.now.graph act)

pub next-graph : (X : Frame) (j : Journal) (act : Act) → IsGood X j → IsLawful X j act → IsGraph (graph_after j.now.graph act)
next-graph X j (Update z op) good lawful = good.graph
next-graph X j (Deliver i m) good lawful = good.graph
next-graph X j (Bind z n) good lawful = good.graph
next-graph X j (Extend d) good lawful = graph-push j.now.graph d good.graph lawful

next-within : (X : Frame) (j : Journal) (act : Act) → IsGood X j → IsLawful X j act → (y : ℕ) → greatest_bound (binds_after j.binds act) y ≤ length j.past + 1
next-within X j (Update z op) good lawful y = omega (arith, good.within y)
next-within X j (Deliver i m) good lawful y = omega (arith, good.within y)
next-within X j (Extend d) good lawful y = omega (arith, good.within y)
next-within X j (Bind z n) good lawful y = choose (z == y) where
  choose : (b : Bool) → (if b then max n (greatest_bound j.binds y) else greatest_bound j.binds y) ≤ length j.past + 1
  choose true = omega (arith, lawful.0, good.within y)
  choose false = omega (arith, good.within y)

next-unbound : (X : Frame) (j : Journal) (act : Act) → IsGood X j → IsLawful X j act → (y : ℕ) → length (graph_after j.now.graph act) ≤ y → greatest_bound (binds_after j.binds act) y ≡ 0
next-unbound X j (Update z op) good lawful y h = good.unbound y h
next-unbound X j (Deliver i m) good lawful y h = good.unbound y h
next-unbound X j (Extend d) good lawful y h = good.unbound y (omega (arith, h, length-append j.now.graph (d ∷ [])))
next-unbound X j (Bind z n) good lawful y h = choose (z == y) refl where
  choose : (b : Bool) → (z == y) ≡ b → (if b then max n (greatest_bound j.binds y) else greatest_bound j.binds y) ≡ 0
  choose true e = absurd (omega (arith, equal-numbers z y e, h, lawful.1.declared, (to-now X j good n).longer))
  choose false e = good.unbound y h

-- where neither a content nor the binds of a derived variable changed, it is on its base as before
kept-based : (X : Frame) (j : Journal) (e : Entry) → IsGood X j → (y : ℕ) → IsDerived j.now.graph y → gain X j e.act y ≡ None → greatest_bound (binds_after j.binds e.act) y ≡ greatest_bound j.binds y
    → content_at (contents_after X j e.act) y ≡ equation (kind_at (graph_after j.now.graph e.act) y) (snapshot_at (next X j e) (greatest_bound (binds_after j.binds e.act) y)).contents
kept-based X j e good y d nothing bound =
    after-at X j e.act y (omega (arith, d.declared, good.shape))
    ∙ ap (λ (o : Option Content). with_gain (content_at j.now.contents y) o) nothing
    ∙ good.based y d
    ∙ ap (λ (c : Decl). equation c.kind (snapshot_at j (greatest_bound j.binds y)).contents) (sym (graph-keeps j.now.graph e.act y d.declared))
    ∙ ap (λ (s : Snapshot). equation (kind_at (graph_after j.now.graph e.act) y) s.contents) (sym (at-kept j.past j.now (snapshot_after X j e.act) (greatest_bound j.binds y) (good.within y)))
    ∙ ap (λ (n : ℕ). equation (kind_at (graph_after j.now.graph e.act) y) (snapshot_at (next X j e) n).contents) (sym bound)

pub op-of-source : (k : Kind) (op : Op) → IsOpOf k op → is_source k ≡ true
op-of-source k (Add v) e = ap is_source e
op-of-source k (Remove v) e = ap is_source e
op-of-source k (Insert v) e = ap is_source e
op-of-source k (Inc by) e = ap is_source e
op-of-source k (Max n) e = ap is_source e
op-of-source k (Join t) e = e

-- the greater of two bases has the greater equation
join-of-bases : (X : Frame) (j : Journal) → IsGood X j → (k : Kind) (m n : ℕ) → join_contents (equation k (snapshot_at j m).contents) (equation k (snapshot_at j n).contents) ≡ equation k (snapshot_at j (max n m)).contents
join-of-bases X j good k m n = choose (below-or-not m n) where
  left : Content
  left = equation k (snapshot_at j m).contents

  right : Content
  right = equation k (snapshot_at j n).contents

  choose : (m < n) ⊎ (n ≤ m) → join_contents left right ≡ equation k (snapshot_at j (max n m)).contents
  choose (inl h) =
      let top : n ≡ max n m = omega (arith, h) in
      join-above left right (equation-ordered k (snapshot_at j n).contents (λ x i. good.tidy n x))
      (omega (arith, equation-flat k (snapshot_at j m).contents))
      (equation-monotone k (snapshot_at j m).contents (snapshot_at j n).contents (λ x i. (good.order m n (omega (arith, h))).grown x))
      ∙ ap (λ (i : ℕ). equation k (snapshot_at j i).contents) top
  choose (inr h) =
      let top : m ≡ max n m = omega (arith, h) in
      join-below left right (equation-ordered k (snapshot_at j m).contents (λ x i. good.tidy m x))
      (omega (arith, equation-flat k (snapshot_at j n).contents))
      (equation-monotone k (snapshot_at j n).contents (snapshot_at j m).contents (λ x i. (good.order n m h).grown x))
      ∙ ap (λ (i : ℕ). equation k (snapshot_at j i).contents) top

-- a bind of y leads y to the greater of its old base and the new one
bind-based : (X : Frame) (j : Journal) (y n by : ℕ) → IsGood X j → n ≤ length j.past → IsDerived j.now.graph y
    → join_contents (content_at j.now.contents y) (equation (kind_at j.now.graph y) (snapshot_at j n).contents)
    ≡ equation (kind_at j.now.graph y) (snapshot_at (next X j (record { by = by; act = Bind y n })) (max n (greatest_bound j.binds y))).contents
bind-based X j y n by good low d =
    ap (λ (s : Content). join_contents s (equation (kind_at j.now.graph y) (snapshot_at j n).contents)) (good.based y d)
    ∙ join-of-bases X j good (kind_at j.now.graph y) (greatest_bound j.binds y) n
    ∙ ap (λ (s : Snapshot). equation (kind_at j.now.graph y) s.contents)
    (sym (at-kept j.past j.now (snapshot_after X j (Bind y n)) (max n (greatest_bound j.binds y)) (omega (arith, low, good.within y))))

other-number : (y z : ℕ) → (z == y) ≡ false → (y == z) ≡ false
other-number y z e = grind (arith, nat_tests, e)

-- what the contents and the base of y come to at an entry
abbrev IsBasedAfter : Frame → Journal → Entry → ℕ → Type 0
IsBasedAfter X j e y = content_at (contents_after X j e.act) y ≡ equation (kind_at (graph_after j.now.graph e.act) y) (snapshot_at (next X j e) (greatest_bound (binds_after j.binds e.act) y)).contents

bound-based : (X : Frame) (j : Journal) (by y n : ℕ) → IsGood X j → n ≤ length j.past → IsDerived j.now.graph y → IsBasedAfter X j (record { by = by; act = Bind y n }) y
bound-based X j by y n good low d =
    after-at X j (Bind y n) y (omega (arith, d.declared, good.shape))
    ∙ ap (λ (b : Bool). with_gain (content_at j.now.contents y) (if b then Some (equation (kind_at j.now.graph y) (snapshot_at j n).contents) else None)) ((eq-eqb y y refl))
    ∙ bind-based X j y n by good low d
    ∙ ap (λ (b : Bool). equation (kind_at j.now.graph y) (snapshot_at (next X j (record { by = by; act = Bind y n })) (if b then max n (greatest_bound j.binds y) else greatest_bound j.binds y)).contents) (sym ((eq-eqb y y refl)))

-- a variable that is declared is least, as its equation was before the first entry
extended-based : (X : Frame) (j : Journal) (by : ℕ) (c : Decl) → IsGood X j → IsLawful X j (Extend c) → (y : ℕ) → y ≡ length j.now.graph → IsFalse (is_source c.kind) → IsBasedAfter X j (record { by = by; act = Extend c }) y
extended-based X j by c good lawful y here process = declared ∙ least_of-derived X.nodes c.kind process ∙ sym (equation-least (kind_at (j.now.graph ++ c ∷ []) y) old.contents input) where
  long : length (gained (gain X j (Extend c)) 0 j.now.contents) ≡ y
  long = omega (arith, here, good.shape, gained-length (gain X j (Extend c)) 0 j.now.contents)

  declared : content_at (contents_after X j (Extend c)) y ≡ least_of X.nodes c.kind
  declared = ap (λ (i : ℕ). content_at (contents_after X j (Extend c)) i) (sym long) ∙ at-last (gained (gain X j (Extend c)) 0 j.now.contents) (least_of X.nodes c.kind) least

  old : Snapshot
  old = snapshot_at (next X j (record { by = by; act = Extend c })) (greatest_bound j.binds y)

  first : old ≡ snapshot_at j 0
  first = ap (λ (n : ℕ). snapshot_at (next X j (record { by = by; act = Extend c })) n) (good.unbound y (omega (arith, here)))
      ∙ at-kept j.past j.now (snapshot_after X j (Extend c)) 0 (omega arith)

  grown : IsGraph (j.now.graph ++ c ∷ [])
  grown = graph-push j.now.graph c good.graph lawful

  input : (x : ℕ) → IsInput (kind_at (j.now.graph ++ c ∷ []) y) x → content_at old.contents x ≡ least
  input x i =
      let low : x < y = graph-earlier (j.now.graph ++ c ∷ []) grown y x i in
      ap (λ (s : Snapshot). content_at s.contents x) first
      ∙ set-bottom X j good x (subst (λ (a : Decl). IsTrue (is_set a.kind)) (at-append j.now.graph (c ∷ []) x no_decl (omega (arith, low, here))) (input-set (j.now.graph ++ c ∷ []) grown y x i))

next-based : (X : Frame) (j : Journal) (by : ℕ) (act : Act) → IsGood X j → IsLawful X j act → (y : ℕ) → IsDerived (graph_after j.now.graph act) y → IsBasedAfter X j (record { by = by; act = act }) y
next-based X j by (Update z op) good lawful y d = kept-based X j (record { by = by; act = Update z op }) good y d (choose _ (y == z) refl) refl where
  choose : (c : Content) (b : Bool) → (y == z) ≡ b → (if b then Some c else None) ≡ None
  choose c true e =
      let source : is_source (kind_at j.now.graph y) ≡ true = subst (λ (x : ℕ). is_source (kind_at j.now.graph x) ≡ true) (sym (equal-numbers y z e)) (op-of-source (kind_at j.now.graph z) op lawful.1) in
      let process : is_source (kind_at j.now.graph y) ≡ false = d.process in
      absurd cc
  choose c false e = refl
next-based X j by (Deliver i m) good lawful y d = kept-based X j (record { by = by; act = Deliver i m }) good y d (none _ (is_source (kind_at j.now.graph y)) d.process) refl where
  none : (c : Content) (b : Bool) → b ≡ false → (if b then Some c else None) ≡ None
  none c b e = ap (λ (a : Bool). if a then Some c else None) e
next-based X j by (Extend c) good lawful y d = choose (below-or-not y (length j.now.graph)) where
  choose : (y < length j.now.graph) ⊎ (length j.now.graph ≤ y) → IsBasedAfter X j (record { by = by; act = Extend c }) y
  choose (inl h) = kept-based X j (record { by = by; act = Extend c }) good y
      (record { declared = h; process = subst (λ (a : Decl). IsFalse (is_source a.kind)) (at-append j.now.graph (c ∷ []) y no_decl h) d.process }) refl refl
  choose (inr h) =
      let here : y ≡ length j.now.graph = omega (arith, h, d.declared, length-append j.now.graph (c ∷ [])) in
      extended-based X j by c good lawful y here (subst (λ (a : Decl). IsFalse (is_source a.kind)) (ap (λ (i : ℕ). decl_at (j.now.graph ++ c ∷ []) i) here ∙ at-last j.now.graph c no_decl) d.process)
next-based X j by (Bind z n) good lawful y d = choose (z == y) refl where
  choose : (b : Bool) → (z == y) ≡ b → IsBasedAfter X j (record { by = by; act = Bind z n }) y
  choose true e = subst (λ (x : ℕ). IsBasedAfter X j (record { by = by; act = Bind x n }) y) (sym (equal-numbers z y e)) (bound-based X j by y n good lawful.0 d)
  choose false e = kept-based X j (record { by = by; act = Bind z n }) good y d
      (ap (λ (b : Bool). if b then Some (equation (kind_at j.now.graph z) (snapshot_at j n).contents) else None) (other-number y z e))
      (ap (λ (b : Bool). if b then max n (greatest_bound j.binds y) else greatest_bound j.binds y) e)

pub next-good : (X : Frame) (j : Journal) (e : Entry) → IsGood X j → IsLawful X j e.act → IsGood X (next X j e)
next-good X j e good lawful = record {
  shape = next-shape X j e.act good;
  order = next-order X j e good;
  uncounted = λ x. ap (λ (s : Snapshot). s.versions x) (at-kept j.past j.now (snapshot_after X j e.act) 0 (omega arith)) ∙ good.uncounted x;
  bottom = λ x. subst (λ (s : Snapshot). content_at s.contents x ≡ least_of X.nodes (kind_at s.graph x)) (sym (at-kept j.past j.now (snapshot_after X j e.act) 0 (omega arith))) (good.bottom x);
  tidy = λ i x. at-more (λ (s : Snapshot). IsOrdered (content_at s.contents x)) j.past j.now (snapshot_after X j e.act) i (λ h. good.tidy i x) (λ h. after-ordered X j e.act (now-tidy X j good) x);
  based = next-based X j e.by e.act good lawful;
  within = λ y. omega (arith, next-within X j e.act good lawful y, length-append j.past (j.now ∷ []));
  unbound = next-unbound X j e.act good lawful;
  graph = next-graph X j e.act good lawful;
}
