-- Sets of numbers, and sets with a change, are within the limits.
use Rattle.std.proofs.Common.{◌≡◌, ◌∙◌, refl, sym, ap, subst, nat_lt, ℤ, Bool, true, false, if◌then◌else◌, List, arith}
use Rattle.std.proofs.lemmas.Bool.Decides.{nat_tests}
use Rattle.std.specs.Ordering.{eq_by_cmp}
use Rattle.model_values.specs.Value.{int}
use Rattle.model_values.specs.Row.{Key, Row, key_cmp, key_exact}
use Rattle.model_values.specs.Size.{IsOfWidth}
use Rattle.model_sets.specs.Rows.{mark, level, row_mark, put, join}
use Rattle.model_sets.proofs.RowLaws.{is-Equal, mark-put, mark-join}
use Rattle.lasp_setops.specs.Fold.{HasWidth}

-- one row more of a number
pub width-put : (s t : List Row) (r : Row) (n : ℤ) → HasWidth s → r.0.0 ≡ int n → t ≡ put r s → HasWidth t
width-put s t r n h is new v w has = choose (eq_by_cmp key_cmp (v, w) r.0) refl where
  choose : (b : Bool) → eq_by_cmp key_cmp (v, w) r.0 ≡ b → IsOfWidth 16 v
  choose true e = subst (IsOfWidth 16) (sym (ap (λ (k : Key). k.0) (key_exact (v, w) r.0 (is-Equal (key_cmp (v, w) r.0) e)) ∙ is)) (record { leaves = omega arith; bytes = omega arith })
  choose false e =
      let none : row_mark r v w ≡ 0 = ap (λ (b : Bool). if b then level r.1 else 0) e in
      let marks : mark t v w ≡ mark (put r s) v w = ap (λ (u : List Row). mark u v w) new in
      h v w (omega (arith, none, has, marks, mark-put r s v w))

pub width-join : (s c t : List Row) → HasWidth s → HasWidth c → join s c ≡ t → HasWidth t
width-join s c t h k is v w has = choose (nat_lt 0 (mark s v w)) refl where
  choose : (b : Bool) → nat_lt 0 (mark s v w) ≡ b → IsOfWidth 16 v
  choose true e = h v w (grind (arith, nat_tests, e))
  choose false e =
      let none : mark s v w ≡ 0 = grind (arith, nat_tests, e) in
      let marks : mark (join s c) v w ≡ mark t v w = ap (λ (u : List Row). mark u v w) is in
      k v w (omega (arith, none, has, marks, mark-join s c v w))
