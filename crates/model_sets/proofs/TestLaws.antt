-- The tests answer as the orders say.
use Rattle.std.proofs.Common.{◌≡◌, ℕ, ◌≤◌, Bool, true, false, ◌==◌, nat_le, if◌then◌else◌, IsTrue, List, [], ◌∷◌, refl, sym, ap, subst, arith, ◌↔◌}
use Rattle.std.proofs.lemmas.Bool.Decides.{nat_tests}
use Rattle.std.specs.Ordering.{eq_by_cmp}
use Rattle.std.proofs.lemmas.Bool.{leb-true, le-leb}
use Rattle.model_values.specs.Value.{Val, val_cmp}
use Rattle.model_values.specs.Row.{Key, Row, key_cmp, key_exact}
use Rattle.model_sets.specs.Rows.{level, row_mark, mark, IsAtMost}
use Rattle.model_sets.specs.Values.{is_value, held, IsWithin}
use Rattle.model_sets.specs.Tests.{is_at_most, is_within}
use Rattle.model_sets.proofs.RowLaws.{and-left, and-right, and-both, is-Equal}
use Rattle.model_sets.proofs.ValueLaws.{held-small}
use Rattle.model_sets.proofs.EquationLaws.{tied_key}
use Rattle.model_sets.proofs.AlgebraLaws.{held-here, same-value}

at_most-from-test : (s t : List Row) → IsTrue (is_at_most s t) → IsAtMost s t
at_most-from-test [] t h v w = omega arith
at_most-from-test (r ∷ s) t h v w = omega (arith, first (eq_by_cmp key_cmp (v, w) r.0) refl, at_most-from-test s t (and-right (nat_le (level r.1) (mark t r.0.0 r.0.1)) (is_at_most s t) h) v w) where
  own : level r.1 ≤ mark t r.0.0 r.0.1
  own = leb-true (level r.1) (mark t r.0.0 r.0.1) (and-left (nat_le (level r.1) (mark t r.0.0 r.0.1)) (is_at_most s t) h)

  first : (b : Bool) → eq_by_cmp key_cmp (v, w) r.0 ≡ b → (if b then level r.1 else 0) ≤ mark t v w
  first true e = subst (λ (k : Key). level r.1 ≤ mark t k.0 k.1) (sym (key_exact (v, w) r.0 (is-Equal (key_cmp (v, w) r.0) e))) own
  first false e = omega arith

test-from-at_most : (s t : List Row) → IsAtMost s t → IsTrue (is_at_most s t)
test-from-at_most [] t h = refl
test-from-at_most (r ∷ s) t h =
    let own : row_mark r r.0.0 r.0.1 ≡ level r.1 = ap (λ (b : Bool). if b then level r.1 else 0) (tied_key r.0) in
    and-both (nat_le (level r.1) (mark t r.0.0 r.0.1)) (is_at_most s t) (le-leb (level r.1) (mark t r.0.0 r.0.1) (omega (arith, own, h r.0.0 r.0.1))) (test-from-at_most s t (λ v w. omega (arith, h v w)))

pub is_at_most-tells : (s t : List Row) → IsTrue (is_at_most s t) ↔ IsAtMost s t
is_at_most-tells s t = (at_most-from-test s t, test-from-at_most s t)

within-from-test : (s t : List Val) → IsTrue (is_within s t) → IsWithin s t
within-from-test [] t h v = omega arith
within-from-test (w ∷ s) t h v = omega (arith, first (is_value w v == 1) refl, within-from-test s t (and-right (held t w == 1) (is_within s t) h) v) where
  own : held t w ≡ 1
  own = let h : (held t w == 1) ≡ true = and-left (held t w == 1) (is_within s t) h in grind (arith, nat_tests, h)

  small : (b : Bool) → (if b then 1 else 0) ≤ 1
  small true = omega arith
  small false = omega arith

  first : (b : Bool) → (is_value w v == 1) ≡ b → is_value w v ≤ held t v
  first true e =
      let one : is_value w v ≡ 1 = grind (arith, nat_tests, e) in
      let here : held t v ≡ 1 = subst (λ (z : Val). held t z ≡ 1) (same-value w v one) own in
      omega (arith, one, here)
  first false e = grind (arith, nat_tests, e, small (eq_by_cmp val_cmp v w))

test-from-within : (s t : List Val) → IsWithin s t → IsTrue (is_within s t)
test-from-within [] t h = refl
test-from-within (w ∷ s) t h = and-both (held t w == 1) (is_within s t) (one (held t w) (omega (arith, held-here w, h w)) (held-small t w)) (test-from-within s t (λ v. omega (arith, h v))) where
  one : (n : ℕ) → 1 ≤ n → n ≤ 1 → (n == 1) ≡ true
  one n a b = grind (arith, nat_tests, a, b)

pub is_within-tells : (s t : List Val) → IsTrue (is_within s t) ↔ IsWithin s t
is_within-tells s t = (within-from-test s t, test-from-within s t)

pub ruleset tests = (is_at_most-tells, is_within-tells)
