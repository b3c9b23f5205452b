-- What clean means, what a derived variable is worth, and how it stands to plain evaluation.
use Rattle.std.proofs.Common.{◌≡◌, ℕ, zero, suc, ◌≤◌, ◌<◌, max, ◌⊎◌, inl, inr, Bool, true, false, if◌then◌else◌, ◌==◌, List, [], ◌∷◌, ◌++◌, length, take, drop, sym, ap, subst, ◌∙◌, arith}
use Rattle.std.proofs.lemmas.List.{length-take, take-append-drop}
use Rattle.model_states.specs.Content.{Content, least, IsContentAtMost}
use Rattle.model_states.proofs.ContentLaws.{at_most-least, at_most-same, same-content}
use Rattle.model_graph.specs.Graph.{Decl, is_source, kind_at, IsInput}
use Rattle.model_graph.specs.Evaluation.{content_at, equation, eval}
use Rattle.model_graph.specs.Order.{ContentsAtMost}
use Rattle.model_graph.specs.Lawful.{IsDerived}
use Rattle.model_graph.proofs.PlaceLaws.{at-past, below-or-not}
use Rattle.model_graph.proofs.EquationLaws.{equation-monotone, equation-alike}
use Rattle.model_graph.proofs.EvalLaws.{eval-above, eval-only}
use Rattle.model_journal.specs.Entry.{Entry, Frame}
use Rattle.model_journal.specs.Journal.{Snapshot, Journal, snapshot_at, journal, graph, vals, val, sources_from, sources}
use Rattle.model_journal.specs.Clean.{version, greatest_read, IsClean, greatest_bound, base}
use Rattle.model_journal.specs.Legal.{IsLegal}
use Rattle.model_journal.proofs.PlaceLaws.{take-whole}
use Rattle.model_journal.proofs.GoodLaws.{IsGood, to-now, now-tidy}
use Rattle.model_journal.proofs.JournalLaws.{journal-past, journal-prefix, journal-push, journal-good, journal-graph, journal-later, vals-grow, counts-length, counts-grow}
use Rattle.model_journal.proofs.StandLaws.{input-was-flat}

-- ---- what stood after the first n entries

pub take-and-drop : (h : List Entry) (n : ℕ) → take n h ++ drop n h ≡ h
take-and-drop h n = take-append-drop n h

pub snapshot-take : (X : Frame) (h : List Entry) (n : ℕ) → snapshot_at (journal X h) n ≡ (journal X (take n h)).now
snapshot-take X h n = choose (below-or-not n (length h)) where
  choose : (n < length h) ⊎ (length h ≤ n) → snapshot_at (journal X h) n ≡ (journal X (take n h)).now
  choose (inl low) =
      let long : length (take n h) ≡ n = omega (arith, length-take n h, low) in
      subst (λ (k : List Entry). snapshot_at (journal X k) n ≡ (journal X (take n h)).now) (take-and-drop h n)
      (subst (λ (m : ℕ). snapshot_at (journal X (take n h ++ drop n h)) m ≡ (journal X (take n h)).now) long (journal-prefix X (take n h) (drop n h)))
  choose (inr high) =
      at-past (journal X h).past n (journal X h).now (omega (arith, high, journal-past X h))
      ∙ ap (λ (k : List Entry). (journal X k).now) (sym (take-whole h n high))

-- ---- the base

-- a derived variable is its equation on what its inputs were at its base
pub val-based : (X : Frame) (h : List Entry) → IsLegal X h → (y : ℕ) → IsDerived (graph X h) y → val X h y ≡ equation (kind_at (graph X h) y) (vals X (take (base X h y) h))
val-based X h legal y d =
    (journal-good X h legal).based y d
    ∙ ap (λ (s : Snapshot). equation (kind_at (graph X h) y) s.contents) (snapshot-take X h (base X h y))

pub val-bounded : (X : Frame) (h : List Entry) → IsLegal X h → (y : ℕ) → IsDerived (graph X h) y → IsContentAtMost (val X h y) (equation (kind_at (graph X h) y) (vals X h))
val-bounded X h legal y d =
    let good = journal-good X h legal in
    let old = snapshot_at (journal X h) (base X h y) in
    subst (λ (s : Content). IsContentAtMost s (equation (kind_at (graph X h) y) (vals X h))) (sym (good.based y d))
    (equation-monotone (kind_at (graph X h) y) old.contents (vals X h) (λ x i. (to-now X (journal X h) good (base X h y)).grown x))

sources-at : (g : List Decl) (ss : List Content) (x : ℕ) → x < length g → length ss ≡ length g → is_source (kind_at g x) ≡ true → content_at ss x ≡ content_at (sources_from g ss) x
sources-at [] ss x h long e = absurd (omega (arith, h))
sources-at (d ∷ g) [] x h long e = absurd (omega (arith, long))
sources-at (d ∷ g) (s ∷ ss) zero h long e = ap (λ (b : Bool). if b then s else least) (sym e)
sources-at (d ∷ g) (s ∷ ss) (suc x) h long e = sources-at g ss x (omega (arith, h)) (omega (arith, long)) e

-- so all contents are at most what evaluation gives
pub vals-below-eval : (X : Frame) (h : List Entry) → IsLegal X h → ContentsAtMost (vals X h) (eval (graph X h) (sources X h))
vals-below-eval X h legal y = choose (below-or-not y (length (graph X h))) where
  long : length (vals X h) ≡ length (graph X h)
  long = (journal-good X h legal).shape

  choose : (y < length (graph X h)) ⊎ (length (graph X h) ≤ y) → IsContentAtMost (val X h y) (content_at (eval (graph X h) (sources X h)) y)
  choose (inl low) = eval-above (graph X h) (sources X h) (vals X h) (journal-good X h legal).graph
      (λ x small e. at_most-same (val X h x) (content_at (sources X h) x) (sources-at (graph X h) (vals X h) x small long e)) (val-bounded X h legal) y low
  choose (inr high) = subst (λ (s : Content). IsContentAtMost s (content_at (eval (graph X h) (sources X h)) y)) (sym (at-past (vals X h) y least (omega (arith, high, long)))) (at_most-least (content_at (eval (graph X h) (sources X h)) y))

pub vals-length : (X : Frame) (h : List Entry) → IsLegal X h → length (vals X h) ≡ length (graph X h)
vals-length X h legal = (journal-good X h legal).shape

pub versions-grow : (X : Frame) (h k : List Entry) (x : ℕ) → version X h x ≤ version X (h ++ k) x
versions-grow X h k = (journal-later X h k).counted

-- ---- clean

pub max-version : (X : Frame) (j : Journal) → IsGood X j → (m n x : ℕ) → max ((snapshot_at j m).versions x) ((snapshot_at j n).versions x) ≡ (snapshot_at j (max m n)).versions x
max-version X j good m n x = choose (below-or-not m n) where
  choose : (m < n) ⊎ (n ≤ m) → max ((snapshot_at j m).versions x) ((snapshot_at j n).versions x) ≡ (snapshot_at j (max m n)).versions x
  choose (inl h) =
      let top : n ≡ max m n = omega (arith, h) in
      let up = (good.order m n (omega (arith, h))).counted x in
      let left : max ((snapshot_at j m).versions x) ((snapshot_at j n).versions x) ≡ (snapshot_at j n).versions x = omega (arith, up) in
      left ∙ ap (λ (i : ℕ). (snapshot_at j i).versions x) top
  choose (inr h) =
      let top : m ≡ max m n = omega (arith, h) in
      let up = (good.order n m h).counted x in
      let left : max ((snapshot_at j m).versions x) ((snapshot_at j n).versions x) ≡ (snapshot_at j m).versions x = omega (arith, up) in
      left ∙ ap (λ (i : ℕ). (snapshot_at j i).versions x) top

pub read-is : (X : Frame) (j : Journal) → IsGood X j → (binds : List (ℕ × ℕ)) (y x : ℕ) → greatest_read j binds y x ≡ (snapshot_at j (greatest_bound binds y)).versions x
read-is X j good [] y x = sym (good.uncounted x)
read-is X j good (b ∷ binds) y x =
    elim (b.0 == y) as (λ c. (if c then max ((snapshot_at j b.1).versions x) (greatest_read j binds y x) else greatest_read j binds y x) ≡ (snapshot_at j (if c then max b.1 (greatest_bound binds y) else greatest_bound binds y)).versions x) [
      | true ↦ ap (λ (n : ℕ). max ((snapshot_at j b.1).versions x) n) (read-is X j good binds y x) ∙ max-version X j good b.1 (greatest_bound binds y) x
      | false ↦ read-is X j good binds y x
    ]

-- an input whose version was applied is as it was at the base, and the other way round
pub applied-same : (X : Frame) (h : List Entry) → IsLegal X h → (y x : ℕ) → IsInput (kind_at (graph X h) y) x → greatest_read (journal X h) (journal X h).binds y x ≡ version X h x
    → content_at (snapshot_at (journal X h) (base X h y)).contents x ≡ val X h x
applied-same X h legal y x i e =
    let good = journal-good X h legal in
    let old = snapshot_at (journal X h) (base X h y) in
    let later = to-now X (journal X h) good (base X h y) in
    same-content (content_at old.contents x) (val X h x) (good.tidy (base X h y) x) (now-tidy X (journal X h) good x) (input-was-flat X h legal y x (base X h y) i) (later.grown x)
    (later.same x (sym (read-is X (journal X h) good (journal X h).binds y x) ∙ e))

pub same-applied : (X : Frame) (j : Journal) → IsGood X j → (y x : ℕ) → content_at (snapshot_at j (greatest_bound j.binds y)).contents x ≡ content_at j.now.contents x → greatest_read j j.binds y x ≡ j.now.versions x
same-applied X j good y x same = read-is X j good j.binds y x ∙ choose (below-or-not ((snapshot_at j (greatest_bound j.binds y)).versions x) (j.now.versions x)) where
  old : Snapshot
  old = snapshot_at j (greatest_bound j.binds y)

  choose : (old.versions x < j.now.versions x) ⊎ (j.now.versions x ≤ old.versions x) → old.versions x ≡ j.now.versions x
  choose (inl h) = absurd ((to-now X j good (greatest_bound j.binds y)).moved x h (at_most-same (content_at j.now.contents x) (content_at old.contents x) (sym same)))
  choose (inr h) = omega (arith, h, (to-now X j good (greatest_bound j.binds y)).counted x)

pub clean-equal : (X : Frame) (h : List Entry) → IsLegal X h → (y : ℕ) → IsDerived (graph X h) y → IsClean X h y → val X h y ≡ equation (kind_at (graph X h) y) (vals X h)
clean-equal X h legal y d clean =
    (journal-good X h legal).based y d
    ∙ equation-alike (kind_at (graph X h) y) (snapshot_at (journal X h) (base X h y)).contents (vals X h) (λ x i. applied-same X h legal y x i (clean x i))

pub all-clean : (X : Frame) (h : List Entry) → IsLegal X h → ((y : ℕ) → IsDerived (graph X h) y → IsClean X h y) → vals X h ≡ eval (graph X h) (sources X h)
all-clean X h legal clean =
    let good = journal-good X h legal in
    eval-only (graph X h) (sources X h) (vals X h) good.graph good.shape
    (λ x small e. sources-at (graph X h) (vals X h) x small good.shape e) (λ y d. clean-equal X h legal y d (clean y d))

pub ruleset prefixes = (snapshot-take, journal-past, journal-push, vals-grow, versions-grow, counts-length, counts-grow)

pub ruleset derived = (val-based, val-bounded, vals-below-eval, vals-length, journal-graph)

pub ruleset clean = (clean-equal, all-clean)
