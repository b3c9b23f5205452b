-- Clean in words of the entries: some bind read the inputs as they are, or they are all least.
use Rattle.std.proofs.Common.{◌≡◌, ℕ, zero, suc, ◌≤◌, max, ◌⊎◌, inl, inr, ◌↔◌, Bool, true, false, if◌then◌else◌, ◌==◌, List, [], ◌∷◌, take, refl, sym, ap, subst, ◌∙◌, arith}
use Rattle.std.proofs.lemmas.Bool.Decides.{nat_tests}
use Rattle.model_states.specs.Content.{Content, least, IsContentAtMost}
use Rattle.model_states.proofs.ContentLaws.{at_most-chain, at_most-least, at_most-same, same-content}
use Rattle.model_graph.specs.Graph.{kind_at, IsInput}
use Rattle.model_graph.specs.Evaluation.{content_at}
use Rattle.model_graph.proofs.PlaceLaws.{equal-numbers}
use Rattle.model_journal.specs.Entry.{Act, Update, Deliver, Bind, Extend, Entry, Frame}
use Rattle.model_journal.specs.Journal.{Snapshot, Journal, snapshot_at, binds_after, next, run, start, journal, graph, val}
use Rattle.model_journal.specs.Clean.{version, applied, IsClean, greatest_bound, base, HasBind, HasReadPresent, AreInputsLeast}
use Rattle.model_journal.specs.Legal.{IsLegal}
use Rattle.model_journal.proofs.GraphLaws.{input-set}
use Rattle.model_journal.proofs.GoodLaws.{IsGood, to-now, now-tidy, set-bottom}
use Rattle.model_journal.proofs.JournalLaws.{journal-good}
use Rattle.model_journal.proofs.StandLaws.{input-was-flat}
use Rattle.model_journal.proofs.CleanLaws.{snapshot-take, read-is, applied-same, same-applied}

-- ---- the binds that a journal keeps are those of its entries

abbrev IsKept : List (ℕ × ℕ) → ℕ → ℕ → Type 0
IsKept [] y n = ⊥
IsKept (b ∷ binds) y n = (b ≡ (y, n)) ⊎ IsKept binds y n

kept-after : (binds : List (ℕ × ℕ)) (act : Act) (y n : ℕ) → IsKept (binds_after binds act) y n → IsKept binds y n ⊎ (act ≡ Bind y n)
kept-after binds (Update z op) y n k = inl k
kept-after binds (Deliver i m) y n k = inl k
kept-after binds (Extend d) y n k = inl k
kept-after binds (Bind z m) y n (inl e) = inr (ap (λ (b : ℕ × ℕ). Bind b.0 b.1) e)
kept-after binds (Bind z m) y n (inr k) = inl k

kept-before : (binds : List (ℕ × ℕ)) (act : Act) (y n : ℕ) → IsKept binds y n → IsKept (binds_after binds act) y n
kept-before binds (Update z op) y n k = k
kept-before binds (Deliver i m) y n k = k
kept-before binds (Extend d) y n k = k
kept-before binds (Bind z m) y n k = inr k

kept-here : (binds : List (ℕ × ℕ)) (act : Act) (y n : ℕ) → act ≡ Bind y n → IsKept (binds_after binds act) y n
kept-here binds act y n e = subst (λ (a : Act). IsKept (binds_after binds a) y n) (sym e) (inl refl)

run-kept : (X : Frame) (j : Journal) (h : List Entry) (y n : ℕ) → IsKept (run X j h).binds y n → IsKept j.binds y n ⊎ HasBind h y n
run-kept X j [] y n k = inl k
run-kept X j (e ∷ h) y n k = first (run-kept X (next X j e) h y n k) where
  second : IsKept j.binds y n ⊎ (e.act ≡ Bind y n) → IsKept j.binds y n ⊎ HasBind (e ∷ h) y n
  second (inl old) = inl old
  second (inr new) = inr (inl new)

  first : IsKept (binds_after j.binds e.act) y n ⊎ HasBind h y n → IsKept j.binds y n ⊎ HasBind (e ∷ h) y n
  first (inl here) = second (kept-after j.binds e.act y n here)
  first (inr later) = inr (inr later)

run-keeps-bind : (X : Frame) (j : Journal) (h : List Entry) (y n : ℕ) → IsKept j.binds y n → IsKept (run X j h).binds y n
run-keeps-bind X j [] y n k = k
run-keeps-bind X j (e ∷ h) y n k = run-keeps-bind X (next X j e) h y n (kept-before j.binds e.act y n k)

run-has : (X : Frame) (j : Journal) (h : List Entry) (y n : ℕ) → HasBind h y n → IsKept (run X j h).binds y n
run-has X j [] y n b = absurd b
run-has X j (e ∷ h) y n (inl here) = run-keeps-bind X (next X j e) h y n (kept-here j.binds e.act y n here)
run-has X j (e ∷ h) y n (inr later) = run-has X (next X j e) h y n later

journal-kept : (X : Frame) (h : List Entry) (y n : ℕ) → IsKept (journal X h).binds y n → HasBind h y n
journal-kept X h y n k = only (run-kept X (start X) h y n k) where
  only : ⊥ ⊎ HasBind h y n → HasBind h y n
  only (inl none) = absurd none
  only (inr has) = has

-- ---- the greatest of them

greatest-kept : (binds : List (ℕ × ℕ)) (y : ℕ) → IsKept binds y (greatest_bound binds y) ⊎ (greatest_bound binds y ≡ 0)
greatest-kept [] y = inr refl
greatest-kept (b ∷ binds) y = choose (b.0 == y) refl (greatest-kept binds y) where
  max-here : (m n : ℕ) → n ≡ 0 → m ≡ max m n
  max-here m n e = omega (arith, e)

  top : (m n : ℕ) → (max m n ≡ m) ⊎ (max m n ≡ n)
  top m zero = inl (omega arith)
  top zero (suc n) = inr (omega arith)
  top (suc m) (suc n) = more (top m n) where
    more : (max m n ≡ m) ⊎ (max m n ≡ n) → (max (suc m) (suc n) ≡ suc m) ⊎ (max (suc m) (suc n) ≡ suc n)
    more (inl e) = inl (omega (arith, e))
    more (inr e) = inr (omega (arith, e))

  which : (b.0 == y) ≡ true → IsKept binds y (greatest_bound binds y) → (max b.1 (greatest_bound binds y) ≡ b.1) ⊎ (max b.1 (greatest_bound binds y) ≡ greatest_bound binds y) → IsKept (b ∷ binds) y (max b.1 (greatest_bound binds y))
  which e k (inl new) = inl (λ i. (equal-numbers b.0 y e i, sym new i))
  which e k (inr old) = inr (subst (λ (n : ℕ). IsKept binds y n) (sym old) k)

  choose : (c : Bool) → (b.0 == y) ≡ c → IsKept binds y (greatest_bound binds y) ⊎ (greatest_bound binds y ≡ 0)
      → IsKept (b ∷ binds) y (if c then max b.1 (greatest_bound binds y) else greatest_bound binds y) ⊎ ((if c then max b.1 (greatest_bound binds y) else greatest_bound binds y) ≡ 0)
  choose true e (inl k) = inl (which e k (top b.1 (greatest_bound binds y)))
  choose true e (inr none) = inl (inl (λ i. (equal-numbers b.0 y e i, max-here b.1 (greatest_bound binds y) none i)))
  choose false e (inl k) = inl (inr k)
  choose false e (inr none) = inr none

kept-low : (binds : List (ℕ × ℕ)) (y n : ℕ) → IsKept binds y n → n ≤ greatest_bound binds y
kept-low [] y n k = absurd k
kept-low (b ∷ binds) y n (inl e) =
    let first : b.0 ≡ y = ap (λ (p : ℕ × ℕ). p.0) e in
    let second : b.1 ≡ n = ap (λ (p : ℕ × ℕ). p.1) e in
    choose (b.0 == y) refl first second where
      choose : (c : Bool) → (b.0 == y) ≡ c → b.0 ≡ y → b.1 ≡ n → n ≤ (if c then max b.1 (greatest_bound binds y) else greatest_bound binds y)
      choose true t p q = omega (arith, q)
      choose false t p q = grind (arith, nat_tests, t, p)
kept-low (b ∷ binds) y n (inr k) = choose (b.0 == y) (kept-low binds y n k) where
  choose : (c : Bool) → n ≤ greatest_bound binds y → n ≤ (if c then max b.1 (greatest_bound binds y) else greatest_bound binds y)
  choose true low = omega (arith, low)
  choose false low = low

-- ---- clean in words

clean-says : (X : Frame) (h : List Entry) → IsLegal X h → (y : ℕ) → IsClean X h y → HasReadPresent X h y ⊎ AreInputsLeast X h y
clean-says X h legal y clean = choose (greatest-kept (journal X h).binds y) where
  good : IsGood X (journal X h)
  good = journal-good X h legal

  same : (x : ℕ) → IsInput (kind_at (graph X h) y) x → content_at (snapshot_at (journal X h) (base X h y)).contents x ≡ val X h x
  same x i = applied-same X h legal y x i (clean x i)

  choose : IsKept (journal X h).binds y (base X h y) ⊎ (base X h y ≡ 0) → HasReadPresent X h y ⊎ AreInputsLeast X h y
  choose (inl k) = inl (base X h y, journal-kept X h y (base X h y) k, λ x i. ap (λ (s : Snapshot). content_at s.contents x) (sym (snapshot-take X h (base X h y))) ∙ same x i)
  choose (inr none) = inr (λ x i. sym (same x i) ∙ ap (λ (n : ℕ). content_at (snapshot_at (journal X h) n).contents x) none ∙ set-bottom X (journal X h) good x (input-set (graph X h) good.graph y x i))

says-clean : (X : Frame) (h : List Entry) → IsLegal X h → (y : ℕ) → HasReadPresent X h y ⊎ AreInputsLeast X h y → IsClean X h y
says-clean X h legal y says x i = same-applied X (journal X h) good y x (between says) where
  good : IsGood X (journal X h)
  good = journal-good X h legal

  old : Content
  old = content_at (snapshot_at (journal X h) (base X h y)).contents x

  up : IsContentAtMost old (val X h x)
  up = (to-now X (journal X h) good (base X h y)).grown x

  close : IsContentAtMost (val X h x) old → old ≡ val X h x
  close down = same-content old (val X h x) (good.tidy (base X h y) x) (now-tidy X (journal X h) good x) (input-was-flat X h legal y x (base X h y) i) up down

  between : HasReadPresent X h y ⊎ AreInputsLeast X h y → old ≡ val X h x
  between (inl read) =
      let n = read.0 in
      let seen = content_at (snapshot_at (journal X h) n).contents x in
      let present : seen ≡ val X h x = ap (λ (s : Snapshot). content_at s.contents x) (snapshot-take X h n) ∙ read.2 x i in
      close (at_most-chain (val X h x) seen old (at_most-same (val X h x) seen (sym present))
      ((good.order n (base X h y) (kept-low (journal X h).binds y n (run-has X (start X) h y n read.1))).grown x))
  between (inr none) = close (at_most-chain (val X h x) least old (at_most-same (val X h x) least (none x i)) (at_most-least old))

pub clean-words : (X : Frame) (h : List Entry) → IsLegal X h → (y : ℕ) → IsClean X h y ↔ (HasReadPresent X h y ⊎ AreInputsLeast X h y)
clean-words X h legal y = (clean-says X h legal y, says-clean X h legal y)

-- ---- base and applied versions in words

pub base-reached : (X : Frame) (h : List Entry) (y : ℕ) → HasBind h y (base X h y) ⊎ (base X h y ≡ 0)
base-reached X h y = choose (greatest-kept (journal X h).binds y) where
  choose : IsKept (journal X h).binds y (base X h y) ⊎ (base X h y ≡ 0) → HasBind h y (base X h y) ⊎ (base X h y ≡ 0)
  choose (inl k) = inl (journal-kept X h y (base X h y) k)
  choose (inr none) = inr none

pub base-greatest : (X : Frame) (h : List Entry) (y n : ℕ) → HasBind h y n → n ≤ base X h y
base-greatest X h y n b = kept-low (journal X h).binds y n (run-has X (start X) h y n b)

pub applied-base : (X : Frame) (h : List Entry) → IsLegal X h → (y x : ℕ) → applied X h y x ≡ version X (take (base X h y) h) x
applied-base X h legal y x = read-is X (journal X h) (journal-good X h legal) (journal X h).binds y x ∙ ap (λ (s : Snapshot). s.versions x) (snapshot-take X h (base X h y))

pub applied-greatest : (X : Frame) (h : List Entry) → IsLegal X h → (y x n : ℕ) → HasBind h y n → version X (take n h) x ≤ applied X h y x
applied-greatest X h legal y x n b =
    let up = ((journal-good X h legal).order n (base X h y) (base-greatest X h y n b)).counted x in
    let here : (snapshot_at (journal X h) n).versions x ≡ version X (take n h) x = ap (λ (s : Snapshot). s.versions x) (snapshot-take X h n) in
    let there : applied X h y x ≡ (snapshot_at (journal X h) (base X h y)).versions x = read-is X (journal X h) (journal-good X h legal) (journal X h).binds y x in
    omega (arith, up, here, there)

pub applied-reached : (X : Frame) (h : List Entry) → IsLegal X h → (y x : ℕ) → ((n : ℕ) × HasBind h y n × (applied X h y x ≡ version X (take n h) x)) ⊎ (applied X h y x ≡ 0)
applied-reached X h legal y x = choose (base-reached X h y) where
  choose : HasBind h y (base X h y) ⊎ (base X h y ≡ 0) → ((n : ℕ) × HasBind h y n × (applied X h y x ≡ version X (take n h) x)) ⊎ (applied X h y x ≡ 0)
  choose (inl b) = inl (base X h y, b, applied-base X h legal y x)
  choose (inr none) = inr (read-is X (journal X h) (journal-good X h legal) (journal X h).binds y x ∙ ap (λ (n : ℕ). (snapshot_at (journal X h) n).versions x) none ∙ (journal-good X h legal).uncounted x)

pub ruleset reads = (applied-greatest, applied-reached, base-greatest, base-reached)
