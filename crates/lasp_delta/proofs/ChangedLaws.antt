-- What loops over a source keep of what changed.
use Rattle.std.proofs.Common.{◌≡◌, ◌↔◌, ℕ, zero, suc, ◌+◌, ◌≤◌, ◌<◌, ◌⊎◌, inl, inr, Bool, true, false, cond, ◌==◌, if◌then◌else◌, IsTrue, List, [], ◌∷◌, length, slice_set, refl, sym, ap, subst, ◌∙◌, arith}
use Rattle.std.proofs.lemmas.Bool.Decides.{nat_tests}
use Rattle.std.proofs.lemmas.List.{length-set}
use Rattle.model_values.specs.Value.{Val}
use Rattle.model_sets.specs.Values.{held, IsHeld, AreAscending}
use Rattle.model_sets.proofs.ValueLaws.{held-small}
use Rattle.model_sets.proofs.AlgebraLaws.{ascending-filter}
use Rattle.model_states.specs.Counts.{count_at}
use Rattle.model_states.proofs.CountLaws.{same_from_counts, count_at-set}
use Rattle.model_graph.proofs.PlaceLaws.{below-or-not, at-past}
use Rattle.model_deltas.specs.Delta.{new_values, changed_counts}
use Rattle.model_deltas.proofs.ChangeLaws.{length-changed_counts}

-- ---- elements

zero-test : (n : ℕ) → n ≤ 1 → (n ≡ 1 → ⊥) → (n == 0) ≡ true
zero-test zero h none = refl
zero-test (suc zero) h none = absurd (none refl)
zero-test (suc (suc n)) h none = absurd (omega (arith, h))

-- an element that the earlier set lacks is kept
pub new-kept : (s : List Val) (v : Val) (t : List Val) (has : Bool) → IsTrue has ↔ IsHeld s v → has ≡ false → new_values s (v ∷ t) ≡ v ∷ new_values s t
new-kept s v t has test e =
    ap (λ (b : Bool). cond b (v ∷ new_values s t) (new_values s t)) (zero-test (held s v) (held-small s v) (λ h. differ (sym (test.1 h) ∙ e)))
  where
    differ : true ≡ false → ⊥
    differ q = cc

pub new-ascends : (s t : List Val) → AreAscending t → AreAscending (new_values s t)
new-ascends s t up = ascending-filter (λ v. held s v == 0) t up

-- ---- counts

changed-count : (s t : List ℕ) (j : ℕ) → length s ≡ length t → j < length t → count_at (changed_counts s t) j ≡ (if count_at s j == count_at t j then 0 else count_at t j)
changed-count [] [] j e low = absurd (omega (arith, low))
changed-count [] (d ∷ t) j e low = absurd (omega (arith, e))
changed-count (c ∷ s) [] j e low = absurd (omega (arith, low))
changed-count (c ∷ s) (d ∷ t) zero e low = refl
changed-count (c ∷ s) (d ∷ t) (suc j) e low = changed-count s t j (omega (arith, e)) (omega (arith, low))

-- the counts are what changed up to a node, and from there on the later ones
pub record AreChangedTo (s t : List ℕ) (node : ℕ) (counts : List ℕ) : Type 0 where
  pub long : length counts ≡ length t
  pub done : (j : ℕ) → j < node → count_at counts j ≡ count_at (changed_counts s t) j
  pub left : (j : ℕ) → node ≤ j → count_at counts j ≡ count_at t j

-- the next count is the same
pub changed-same : (s t counts : List ℕ) (node : ℕ) → length s ≡ length t → node < length t → AreChangedTo s t node counts → count_at s node ≡ count_at t node → AreChangedTo s t (node + 1) (slice_set counts node 0)
changed-same s t counts node e low h same = record {
  long = length-set counts node 0 ∙ h.long;
  done = λ j small. choose j small (below-or-not j node);
  left = λ j high. other j (omega (arith, high)) ∙ h.left j (omega (arith, high));
} where
  within : node < length counts
  within = omega (arith, low, h.long)

  other : (j : ℕ) → (j ≡ node → ⊥) → count_at (slice_set counts node 0) j ≡ count_at counts j
  other j n = count_at-set counts node 0 j within ∙ ap (λ (b : Bool). if b then 0 else count_at counts j) (let test : (j == node) ≡ false = grind (arith, nat_tests, n) in test)

  here : count_at (slice_set counts node 0) node ≡ count_at (changed_counts s t) node
  here =
      let itself : (node == node) ≡ true = grind (arith, nat_tests) in
      let test : (count_at s node == count_at t node) ≡ true = grind (arith, nat_tests, same) in
      count_at-set counts node 0 node within ∙ ap (λ (b : Bool). if b then 0 else count_at counts node) itself
      ∙ sym (changed-count s t node e low ∙ ap (λ (b : Bool). if b then 0 else count_at t node) test)

  choose : (j : ℕ) → j < node + 1 → (j < node) ⊎ (node ≤ j) → count_at (slice_set counts node 0) j ≡ count_at (changed_counts s t) j
  choose j small (inl before) = other j (λ is. absurd (omega (arith, is, before))) ∙ h.done j before
  choose j small (inr high) = subst (λ (n : ℕ). count_at (slice_set counts node 0) n ≡ count_at (changed_counts s t) n) (let is : node ≡ j = omega (arith, small, high) in is) here

-- the next count is another
pub changed-other : (s t counts : List ℕ) (node : ℕ) → length s ≡ length t → node < length t → AreChangedTo s t node counts → (count_at s node ≡ count_at t node → ⊥) → AreChangedTo s t (node + 1) counts
changed-other s t counts node e low h differ = record {
  long = h.long;
  done = λ j small. choose j small (below-or-not j node);
  left = λ j high. h.left j (omega (arith, high));
} where
  here : count_at counts node ≡ count_at (changed_counts s t) node
  here =
      let test : (count_at s node == count_at t node) ≡ false = grind (arith, nat_tests, differ) in
      h.left node (omega arith) ∙ sym (changed-count s t node e low ∙ ap (λ (b : Bool). if b then 0 else count_at t node) test)

  choose : (j : ℕ) → j < node + 1 → (j < node) ⊎ (node ≤ j) → count_at counts j ≡ count_at (changed_counts s t) j
  choose j small (inl before) = h.done j before
  choose j small (inr high) = subst (λ (n : ℕ). count_at counts n ≡ count_at (changed_counts s t) n) (let is : node ≡ j = omega (arith, small, high) in is) here

-- all counts were looked at
pub changed-end : (s t counts : List ℕ) (node : ℕ) → length t ≤ node → AreChangedTo s t node counts → counts ≡ changed_counts s t
changed-end s t counts node past h = same_from_counts counts (changed_counts s t) (h.long ∙ sym (length-changed_counts s t)) (λ j. choose j (below-or-not j node)) where
  choose : (j : ℕ) → (j < node) ⊎ (node ≤ j) → count_at counts j ≡ count_at (changed_counts s t) j
  choose j (inl low) = h.done j low
  choose j (inr high) =
      let mine : count_at counts j ≡ 0 = at-past counts j 0 (omega (arith, h.long, past, high)) in
      let theirs : count_at (changed_counts s t) j ≡ 0 = at-past (changed_counts s t) j 0 (omega (arith, length-changed_counts s t, past, high)) in
      mine ∙ sym theirs
