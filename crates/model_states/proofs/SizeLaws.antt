-- A greater content has no fewer rows and elements.
use Rattle.std.proofs.Common.{◌≡◌, suc, ◌≤◌, max, Bool, true, false, if◌then◌else◌, IsTrue, List, [], ◌∷◌, length, refl, sym, ap, subst, ◌∙◌, arith}
use Rattle.std.specs.Ordering.{is_lt, eq_by_cmp, ordering_reverse}
use Rattle.std.specs.declared.cmp.Ordering.TheVariants.{Less, Equal, Greater}
use Rattle.std.specs.FinMap.Entries.{is_sorted, below_all}
use Rattle.model_values.specs.Row.{Key, Row, key_cmp, key_exact, key_total}
use Rattle.model_sets.specs.Rows.{level, row_mark, mark, IsAscending, IsAtMost}
use Rattle.model_sets.proofs.RowLaws.{and-left, and-right, and-both, is-Equal, mark-below, below-chain}
use Rattle.model_sets.proofs.EquationLaws.{tied_key}
use Rattle.model_states.specs.Content.{Content, at_row, at_value, IsContentAtMost, IsOrdered, size_of}
use Rattle.model_states.proofs.ThresholdLaws.{length-within}

-- a row's own mark is some
own-some : (r : Row) → 1 ≤ row_mark r r.0.0 r.0.1
own-some r = subst (λ (b : Bool). 1 ≤ (if b then level r.1 else 0)) (sym (tied_key r.0)) (some r.1) where
  some : (d : Bool) → 1 ≤ level d
  some true = omega arith
  some false = omega arith

-- a row below all of some rows need not be there
skip-row : (q : Row) (s t : List Row) → IsTrue (below_all key_cmp q.0 s) → IsAtMost s (q ∷ t) → IsAtMost s t
skip-row q s t low a v w = choose (eq_by_cmp key_cmp (v, w) q.0) refl (a v w) where
  choose : (b : Bool) → eq_by_cmp key_cmp (v, w) q.0 ≡ b → mark s v w ≤ max (if b then level q.1 else 0) (mark t v w) → mark s v w ≤ mark t v w
  choose true e h =
      let none : mark s v w ≡ 0 = subst (λ (k : Key). mark s k.0 k.1 ≡ 0) (sym (key_exact (v, w) q.0 (is-Equal (key_cmp (v, w) q.0) e))) (mark-below q.0 s low) in
      omega (arith, none)
  choose false e h = omega (arith, h)

-- the rest of ascending rows is at most the rest of others where both begin with one key
rest-rows : (r q : Row) (s t : List Row) → IsTrue (below_all key_cmp q.0 s) → IsAtMost (r ∷ s) (q ∷ t) → IsAtMost s t
rest-rows r q s t low a = skip-row q s t low (λ v w. omega (arith, a v w))

pub length-at_most : (s t : List Row) → IsAscending s → IsAscending t → IsAtMost s t → length s ≤ length t
length-at_most [] t up_s up_t a = omega arith
length-at_most (r ∷ s) [] up_s up_t a = absurd (omega (arith, own-some r, a r.0.0 r.0.1))
length-at_most (r ∷ s) (q ∷ t) up_s up_t a =
    let low : IsTrue (below_all key_cmp r.0 s) = and-left (below_all key_cmp r.0 s) (is_sorted key_cmp s) up_s in
    let rest_s : IsAscending s = and-right (below_all key_cmp r.0 s) (is_sorted key_cmp s) up_s in
    let high : IsTrue (below_all key_cmp q.0 t) = and-left (below_all key_cmp q.0 t) (is_sorted key_cmp t) up_t in
    let rest_t : IsAscending t = and-right (below_all key_cmp q.0 t) (is_sorted key_cmp t) up_t in
    elim (key_cmp r.0 q.0) as (λ o. key_cmp r.0 q.0 ≡ o → suc (length s) ≤ suc (length t)) [
      | Less ↦ λ e. absurd (omega (arith, a r.0.0 r.0.1, own-some r, mark-below r.0 (q ∷ t) (and-both (is_lt (key_cmp r.0 q.0)) (below_all key_cmp r.0 t) (ap is_lt e) (below-chain r.0 q.0 t e high))))
      | Equal ↦ λ e. omega (arith, length-at_most s t rest_s rest_t (rest-rows r q s t (subst (λ (k : Key). IsTrue (below_all key_cmp k s)) (key_exact r.0 q.0 e) low) a))
      | Greater ↦ λ e.
          let less = key_total.antisymm q.0 r.0 in
          omega (arith, length-at_most (r ∷ s) t up_s rest_t (skip-row q (r ∷ s) t (and-both (is_lt (key_cmp q.0 r.0)) (below_all key_cmp q.0 s) (ap is_lt less ∙ ap (λ o. is_lt (ordering_reverse o)) e) (below-chain q.0 r.0 s (less ∙ ap ordering_reverse e) low)) a))
    ] refl

pub size-grows : (s t : Content) → IsOrdered s → IsOrdered t → IsContentAtMost s t → size_of s ≤ size_of t
size-grows s t up_s up_t a =
    omega (arith, length-at_most s.rows t.rows up_s.rows up_t.rows (λ v w. a (at_row v w)), length-within s.values t.values up_s.values up_t.values (λ v. a (at_value v)))

pub ruleset sizes = (length-at_most, length-within, size-grows)
