-- What thresholds ask, from what the parts of states answer.
use Rattle.std.proofs.Common.{◌≡◌, ◌↔◌, ℕ, zero, suc, ◌+◌, Bool, IsTrue, true, false, not, List, [], ◌∷◌, Some, drop, refl, sym, ap, subst, ◌∙◌, ◌&&◌, ◌⊎◌, arith}
use mathlib.Core.Logic.{inl, inr}
use Rattle.std.specs.List.{list_all, slice_get}
use Rattle.model_values.specs.Value.{Val}
use Rattle.model_values.specs.Token.{Tok}
use Rattle.model_values.specs.Row.{Row}
use Rattle.model_sets.specs.Rows.{HasRow, IsDeadIn}
use Rattle.model_sets.specs.Values.{IsHeld}
use Rattle.model_sets.proofs.RowLaws.{and-left, and-both}
use Rattle.model_states.specs.Content.{Content, least, of_set, IsContentAtMost, is_content_at_most}
use Rattle.model_states.specs.Threshold.{is_added, is_removed}
use Rattle.model_states.proofs.ContentLaws.{order-test}
use Rattle.model_states.proofs.DeltaLaws.{insert-value}
use Rattle.model_states.proofs.ThresholdLaws.{added-words, removed-words}
use Rattle.model_sets.specs.Reads.{HasRowOf}
use Rattle.lasp_state.specs.Threshold.{is_in}

-- two tests of one thing are equal
pub same-tests : (a b : Bool) (P : Type 0) → (IsTrue a ↔ P) → (IsTrue b ↔ P) → a ≡ b
same-tests true true P f g = refl
same-tests true false P f g = absurd (let wrong : false ≡ true = g.1 (f.0 refl) in cc)
same-tests false true P f g = absurd (let wrong : false ≡ true = f.1 (g.0 refl) in cc)
same-tests false false P f g = refl

pub at-least-test : (b : Bool) (s t : Content) → (IsTrue b ↔ IsContentAtMost s t) → b ≡ is_content_at_most s t
at-least-test b s t h = same-tests b (is_content_at_most s t) (IsContentAtMost s t) h (order-test s t)

-- ---- values that were added or removed

abbrev IsAdded : Content → Val → Type 0
IsAdded s v = ((t : Tok) × HasRow s.rows v t) ⊎ IsHeld s.values v

added-one : (s : Content) (v : Val) → IsTrue (is_added s v) ↔ IsAdded s v
added-one s v = (there, back) where
  there : IsTrue (is_added s v) → IsAdded s v
  there h = (added-words (v ∷ []) s).0 (and-both (is_added s v) true h refl) v ((insert-value v least 0 0 v).1 refl)

  back : IsAdded s v → IsTrue (is_added s v)
  back g = and-left (is_added s v) true ((added-words (v ∷ []) s).1 (λ w is. subst (IsAdded s) (sym ((insert-value v least 0 0 w).0 is)) g))

removed-one : (s : Content) (v : Val) → IsTrue (is_removed s v) ↔ ((t : Tok) × IsDeadIn s.rows v t)
removed-one s v = (there, back) where
  there : IsTrue (is_removed s v) → (t : Tok) × IsDeadIn s.rows v t
  there h = (removed-words (v ∷ []) s).0 (and-both (is_removed s v) true h refl) v ((insert-value v least 0 0 v).1 refl)

  back : (t : Tok) × IsDeadIn s.rows v t → IsTrue (is_removed s v)
  back g = and-left (is_removed s v) true ((removed-words (v ∷ []) s).1 (λ w is. subst (λ (z : Val). (t : Tok) × IsDeadIn s.rows z t) (sym ((insert-value v least 0 0 w).0 is)) g))

rows-in : (b dead : Bool) (rows : List Row) (v : Val) → (IsTrue b ↔ HasRowOf rows v dead) → IsTrue b ↔ IsTrue (is_in dead (of_set rows) v)
rows-in b false rows v h = (λ is. (added-one (of_set rows) v).1 (inl (h.0 is)), λ is. h.1 (row-of ((added-one (of_set rows) v).0 is))) where
  row-of : IsAdded (of_set rows) v → (t : Tok) × HasRow rows v t
  row-of (inl row) = row
  row-of (inr wrong) = absurd (omega (arith, wrong))
rows-in b true rows v h = (λ is. (removed-one (of_set rows) v).1 (h.0 is), λ is. h.1 ((removed-one (of_set rows) v).0 is))

-- a set's rows tell
pub set-has : (b dead : Bool) (s : Content) (rows : List Row) (v : Val) → s ≡ of_set rows → (IsTrue b ↔ HasRowOf rows v dead) → IsTrue b ↔ IsTrue (is_in dead s v)
set-has b dead s rows v e h = subst (λ (c : Content). IsTrue b ↔ IsTrue (is_in dead c v)) (sym e) (rows-in b dead rows v h)

-- ---- the values of a list, one after the other

nothing-at : (i : ℕ) (v : Val) → slice_get {X = Val} [] i ≡ Some v → ⊥
nothing-at zero v e = cc
nothing-at (suc i) v e = cc

front-at : (vs : List Val) (i : ℕ) (v : Val) → slice_get vs i ≡ Some v → drop i vs ≡ v ∷ drop (suc i) vs
front-at [] i v e = absurd (nothing-at i v e)
front-at (x ∷ vs) zero v e = ap (λ (z : Val). z ∷ vs) (let same : x ≡ v = cc in same)
front-at (x ∷ vs) (suc i) v e = front-at vs i v e

-- where one fails, not all pass
pub one-fails : (p : Val → Bool) (vs : List Val) (i : ℕ) (v : Val) (b : Bool) → slice_get vs i ≡ Some v → (IsTrue b ↔ IsTrue (p v)) → b ≡ false → list_all p (drop i vs) ≡ list_all p vs → false ≡ list_all p vs
one-fails p vs i v b at same h left =
    ap (λ (c : Bool). c && list_all p (drop (suc i) vs)) (sym h ∙ same-tests b (p v) (IsTrue (p v)) same (λ is. is, λ is. is))
    ∙ sym (ap (list_all p) (front-at vs i v at)) ∙ left

-- where one passes, the rest tell
pub one-passes : (p : Val → Bool) (vs : List Val) (i : ℕ) (v : Val) (b : Bool) → slice_get vs i ≡ Some v → (IsTrue b ↔ IsTrue (p v)) → b ≡ true → list_all p (drop i vs) ≡ list_all p vs
    → list_all p (drop (i + 1) vs) ≡ list_all p vs
one-passes p vs i v b at same h left =
    ap (λ (n : ℕ). list_all p (drop n vs)) (let step : i + 1 ≡ suc i = omega arith in step)
    ∙ ap (λ (c : Bool). c && list_all p (drop (suc i) vs)) (sym h ∙ same-tests b (p v) (IsTrue (p v)) same (λ is. is, λ is. is))
    ∙ sym (ap (list_all p) (front-at vs i v at)) ∙ left

-- where one fails, not all pass
pub one-lacks : (p : Val → Bool) (vs : List Val) (i : ℕ) (v : Val) (b : Bool) → slice_get vs i ≡ Some v → (IsTrue b ↔ IsTrue (p v)) → IsTrue (not b) → list_all p vs ≡ false
one-lacks p vs i v b at same lacking = lacks vs i at where
  untrue : (c : Bool) → IsTrue (not c) → c ≡ false
  untrue true h = absurd (let wrong : false ≡ true = h in cc)
  untrue false h = refl

  fails : p v ≡ false
  fails = sym (same-tests b (p v) (IsTrue (p v)) same (λ is. is, λ is. is)) ∙ untrue b lacking

  neither : (c : Bool) → (c && false) ≡ false
  neither true = refl
  neither false = refl

  lacks : (us : List Val) (j : ℕ) → slice_get us j ≡ Some v → list_all p us ≡ false
  lacks [] j e = absurd (nothing-at j v e)
  lacks (x ∷ us) zero e = ap (λ (z : Val). p z && list_all p us) (let is : x ≡ v = cc in is) ∙ ap (λ (c : Bool). c && list_all p us) fails
  lacks (x ∷ us) (suc j) e = ap (λ (c : Bool). p x && c) (lacks us j e) ∙ neither (p x)
