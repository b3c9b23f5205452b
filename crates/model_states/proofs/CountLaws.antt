-- The laws of counts: each by what the nodes counted, and equality last.
use Rattle.std.proofs.Common.{◌≡◌, ℕ, zero, suc, ◌+◌, ◌≤◌, ◌<◌, min, max, nat_le, ◌==◌, if◌then◌else◌, Bool, true, false, IsTrue, ◌↔◌, List, [], ◌∷◌, length, sum, slice_set, refl, ap, subst, ◌∙◌, arith}
use Rattle.std.proofs.lemmas.Bool.Decides.{nat_tests}
use Rattle.std.proofs.lemmas.List.{length-set, get_or-set_same, get_or-set_other}
use Rattle.std.proofs.lemmas.List.Sums.{sum_by-cons}
use Rattle.std.proofs.lemmas.Bool.{leb-true, le-leb}
use Rattle.model_sets.proofs.RowLaws.{and-left, and-right, and-both}
use Rattle.model_states.specs.Counts.{count_max, count_at, zeros, larger, AreCountsAtMost, are_counts_at_most, inc_delta}

pub count_at-larger : (s t : List ℕ) (node : ℕ) → count_at (larger s t) node ≡ max (count_at s node) (count_at t node)
count_at-larger [] t node = omega arith
count_at-larger (c ∷ s) [] node = omega arith
count_at-larger (c ∷ s) (d ∷ t) zero = refl
count_at-larger (c ∷ s) (d ∷ t) (suc node) = count_at-larger s t node

pub length-larger : (s t : List ℕ) → length (larger s t) ≡ max (length s) (length t)
length-larger [] t = omega arith
length-larger (c ∷ s) [] = omega arith
length-larger (c ∷ s) (d ∷ t) = omega (arith, length-larger s t)

pub same_from_counts : (s t : List ℕ) → length s ≡ length t → ((node : ℕ) → count_at s node ≡ count_at t node) → s ≡ t
same_from_counts [] [] e same = refl
same_from_counts [] (d ∷ t) e same = absurd (omega (arith, e))
same_from_counts (c ∷ s) [] e same = absurd (omega (arith, e))
same_from_counts (c ∷ s) (d ∷ t) e same = λ i. same 0 i ∷ same_from_counts s t (omega (arith, e)) (λ node. same (suc node)) i

pub count_at-zeros : (nodes node : ℕ) → count_at (zeros nodes) node ≡ 0
count_at-zeros zero node = refl
count_at-zeros (suc nodes) zero = refl
count_at-zeros (suc nodes) (suc node) = count_at-zeros nodes node

pub length-zeros : (nodes : ℕ) → length (zeros nodes) ≡ nodes
length-zeros zero = refl
length-zeros (suc nodes) = ap suc (length-zeros nodes)

-- ---- the order and the join

pub counts-antisymmetric : (s t : List ℕ) → length s ≡ length t → AreCountsAtMost s t → AreCountsAtMost t s → s ≡ t
counts-antisymmetric s t e a b = same_from_counts s t e (λ node. omega (arith, a node, b node))

pub larger-idempotent : (s : List ℕ) → larger s s ≡ s
larger-idempotent s = same_from_counts (larger s s) s (omega (arith, length-larger s s)) (λ node. omega (arith, count_at-larger s s node))

pub larger-commutative : (s t : List ℕ) → larger s t ≡ larger t s
larger-commutative s t = same_from_counts (larger s t) (larger t s) (omega (arith, length-larger s t, length-larger t s)) (λ node. omega (arith, count_at-larger s t node, count_at-larger t s node))

pub larger-associative : (s t u : List ℕ) → larger (larger s t) u ≡ larger s (larger t u)
larger-associative s t u =
    same_from_counts (larger (larger s t) u) (larger s (larger t u)) (omega (arith, length-larger (larger s t) u, length-larger s t, length-larger s (larger t u), length-larger t u))
    (λ node. omega (arith, count_at-larger (larger s t) u node, count_at-larger s t node, count_at-larger s (larger t u) node, count_at-larger t u node))

pub larger-at_most : (s t : List ℕ) → length s ≤ length t → AreCountsAtMost s t → larger s t ≡ t
larger-at_most s t e a = same_from_counts (larger s t) t (omega (arith, e, length-larger s t)) (λ node. omega (arith, count_at-larger s t node, a node))

-- ---- the test

counts-from-test : (s t : List ℕ) → IsTrue (are_counts_at_most s t) → AreCountsAtMost s t
counts-from-test [] t h node = omega arith
counts-from-test (c ∷ s) [] h zero = leb-true c 0 (and-left (nat_le c 0) (are_counts_at_most s []) h)
counts-from-test (c ∷ s) [] h (suc node) = counts-from-test s [] (and-right (nat_le c 0) (are_counts_at_most s []) h) node
counts-from-test (c ∷ s) (d ∷ t) h zero = leb-true c d (and-left (nat_le c d) (are_counts_at_most s t) h)
counts-from-test (c ∷ s) (d ∷ t) h (suc node) = counts-from-test s t (and-right (nat_le c d) (are_counts_at_most s t) h) node

test-from-counts : (s t : List ℕ) → AreCountsAtMost s t → IsTrue (are_counts_at_most s t)
test-from-counts [] t a = refl
test-from-counts (c ∷ s) [] a = and-both (nat_le c 0) (are_counts_at_most s []) (le-leb c 0 (a 0)) (test-from-counts s [] (λ node. a (suc node)))
test-from-counts (c ∷ s) (d ∷ t) a = and-both (nat_le c d) (are_counts_at_most s t) (le-leb c d (a 0)) (test-from-counts s t (λ node. a (suc node)))

pub counts-test : (s t : List ℕ) → IsTrue (are_counts_at_most s t) ↔ AreCountsAtMost s t
counts-test s t = (counts-from-test s t, test-from-counts s t)

-- ---- totals

pub sum-monotone : (s t : List ℕ) → AreCountsAtMost s t → sum s ≤ sum t
sum-monotone [] t a = omega arith
sum-monotone (c ∷ s) [] a = omega (arith, sum_by-cons (λ x. x) c s, a 0, sum-monotone s [] (λ node. a (suc node)))
sum-monotone (c ∷ s) (d ∷ t) a = omega (arith, sum_by-cons (λ x. x) c s, sum_by-cons (λ x. x) d t, a 0, sum-monotone s t (λ node. a (suc node)))

-- ---- what an update of a counter joins in

pub count_at-set : (counts : List ℕ) (node n q : ℕ) → node < length counts → count_at (slice_set counts node n) q ≡ (if q == node then n else count_at counts q)
count_at-set counts node n q low = choose (q == node) refl where
  choose : (b : Bool) → (q == node) ≡ b → count_at (slice_set counts node n) q ≡ (if b then n else count_at counts q)
  choose true e =
      let here : node ≡ q = grind (arith, nat_tests, e) in
      subst (λ (p : ℕ). count_at (slice_set counts node n) p ≡ n) here (get_or-set_same counts node n 0 low)
  choose false e = get_or-set_other counts node q n 0 (grind (arith, nat_tests, e))

pub length-inc : (counts : List ℕ) (node by : ℕ) → length (inc_delta counts node by) ≡ length counts
length-inc counts node by = length-set (zeros (length counts)) node (min (count_at counts node + by) count_max) ∙ length-zeros (length counts)

pub count_at-inc : (counts : List ℕ) (node by q : ℕ) → node < length counts → count_at (inc_delta counts node by) q ≡ (if q == node then min (count_at counts node + by) count_max else 0)
count_at-inc counts node by q low =
    count_at-set (zeros (length counts)) node (min (count_at counts node + by) count_max) q (omega (arith, low, length-zeros (length counts)))
    ∙ ap (λ (n : ℕ). if q == node then min (count_at counts node + by) count_max else n) (count_at-zeros (length counts) q)

pub ruleset count_laws = (count_at-larger, length-larger, larger-idempotent, larger-commutative, larger-associative, larger-at_most, counts-antisymmetric, counts-test, sum-monotone)
