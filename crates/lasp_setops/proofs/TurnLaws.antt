-- The values that came or went: where they are found, how many they are, and the fold that is corrected for them.
use Rattle.std.proofs.Common.{◌≡◌, ◌≢◌, ℕ, suc, ◌≤◌, ◌==◌, nat_lt, max, ℤ, Bool, true, false, cond, not, ◌&&◌, if◌then◌else◌, List, [], ◌∷◌, map, filter, fold, length, Option, Some, None, refl, sym, ap, ◌∙◌, arith}
use Rattle.std.proofs.lemmas.Bool.Decides.{nat_tests}
use Rattle.std.proofs.lemmas.List.{length-map}
use Rattle.std.specs.Ordering.{is_lt}
use Rattle.std.specs.declared.cmp.Ordering.TheVariants.{Less, Equal, Greater}
use Rattle.std.specs.FinMap.Entries.{by_order, is_sorted, below_all}
use Rattle.model_values.specs.Value.{Val, val_cmp}
use Rattle.model_values.specs.Token.{Tok}
use Rattle.model_values.specs.Row.{Key, Row, key_cmp}
use Rattle.model_sets.specs.Rows.{mark, IsAscending}
use Rattle.model_sets.specs.Values.{held, IsHeld, AreAscending, add, of_values, live_values, visible, row_values}
use Rattle.model_sets.specs.Folds.{corrected}
use Rattle.model_sets.proofs.ValueLaws.{held-small, held-of_values, same_from_held}
use Rattle.model_sets.proofs.AlgebraLaws.{held-filter, ascending-filter}
use Rattle.model_sets.proofs.UpdateLaws.{same-held, row-value}
use Rattle.model_sets.specs.Loops.{is_last, values_after}
use Rattle.model_sets.proofs.LoopLaws.{values_after-visible}
use Rattle.lasp_setops.specs.Turns.{values_left, turns, turned}

-- ---- the values of rows

-- a row, live
abbrev revived : Row → Row
revived r = (r.0, false)

below-revived : (k : Key) (s : List Row) → below_all key_cmp k (map revived s) ≡ below_all key_cmp k s
below-revived k [] = refl
below-revived k (r ∷ s) = ap (λ b. is_lt (key_cmp k r.0) && b) (below-revived k s)

sorted-revived : (s : List Row) → is_sorted key_cmp (map revived s) ≡ is_sorted key_cmp s
sorted-revived [] = refl
sorted-revived (r ∷ s) = λ i. below-revived r.0 s i && sorted-revived s i

live-revived : (s : List Row) → live_values (map revived s) ≡ map (λ (r : Row). r.0.0) s
live-revived [] = refl
live-revived (r ∷ s) = ap (λ (rest : List Val). r.0.0 ∷ rest) (live-revived s)

left-revived : (last : Option Val) (s : List Row) → values_left last s ≡ values_after last (map revived s)
left-revived last [] = refl
left-revived last (r ∷ s) =
    elim (is_last last r.0.0) as (λ b. (if b then values_left last s else r.0.0 ∷ values_left (Some r.0.0) s) ≡ (if b then values_after last (map revived s) else r.0.0 ∷ values_after (Some r.0.0) (map revived s))) [
      | true ↦ left-revived last s
      | false ↦ ap (λ (rest : List Val). r.0.0 ∷ rest) (left-revived (Some r.0.0) s)
    ]

-- before the first of ascending rows all their values are left
pub left-all : (s : List Row) → IsAscending s → values_left None s ≡ row_values s
left-all s up = left-revived None s ∙ values_after-visible (map revived s) (sorted-revived s ∙ up) ∙ ap of_values (live-revived s)

-- where the marks of one state are those of another and of some rows together, a value that only one of the two shows has a row among those
pub listed : (s c t : List Row) → IsAscending s → IsAscending t → ((v : Val) (w : Tok) → mark t v w ≡ max (mark s v w) (mark c v w)) → (v : Val) → held (visible s) v ≢ held (visible t) v → IsHeld (row_values c) v
listed s c t up_s up_t joined v differ = held-of_values (map (λ r. r.0.0) c) v ∙ choose (held (map (λ r. r.0.0) c) v == 1) refl where
  choose : (b : Bool) → (held (map (λ r. r.0.0) c) v == 1) ≡ b → held (map (λ r. r.0.0) c) v ≡ 1
  choose true e = grind (arith, nat_tests, e)
  choose false e =
      let other : held (map (λ r. r.0.0) c) v ≢ 1 = grind (arith, nat_tests, e) in
      absurd (differ (same-held s t up_s up_t v (λ w. still w (none other w (nat_lt 0 (mark c v w)) refl)))) where
        none : held (map (λ r. r.0.0) c) v ≢ 1 → (w : Tok) (b : Bool) → nat_lt 0 (mark c v w) ≡ b → mark c v w ≡ 0
        none other w true g = absurd (other (row-value c v w (grind (arith, nat_tests, g))))
        none other w false g = grind (arith, nat_tests, g)

        still : (w : Tok) → mark c v w ≡ 0 → mark s v w ≡ mark t v w
        still w z = omega (arith, joined v w, z)

-- ---- lengths

length-add : (v : Val) (s : List Val) → length (add v s) ≤ suc (length s)
length-add v [] = omega arith
length-add v (w ∷ s) =
    elim (val_cmp v w) as (λ o. length (by_order o (v ∷ w ∷ s) (w ∷ s) (w ∷ add v s)) ≤ suc (suc (length s))) [
      | Less ↦ omega arith
      | Equal ↦ omega arith
      | Greater ↦ omega (arith, length-add v s)
    ]

length-of_values : (s : List Val) → length (of_values s) ≤ length s
length-of_values [] = omega arith
length-of_values (v ∷ s) = omega (arith, length-add v (of_values s), length-of_values s)

length-filter : (test : Row → Bool) (s : List Row) → length (filter test s) ≤ length s
length-filter test [] = omega arith
length-filter test (r ∷ s) =
    elim (test r) as (λ b. length (cond b (r ∷ filter test s) (filter test s)) ≤ suc (length s)) [
      | true ↦ omega (arith, length-filter test s)
      | false ↦ omega (arith, length-filter test s)
    ]

pub length-visible : (s : List Row) → length (visible s) ≤ length s
length-visible s = omega (arith, length-of_values (live_values s), length-map (filter (λ (r : Row). not r.1) s) (λ (r : Row). r.0.0), length-filter (λ r. not r.1) s)

pub length-row_values : (s : List Row) → length (row_values s) ≤ length s
length-row_values s = omega (arith, length-of_values (map (λ (r : Row). r.0.0) s), length-map s (λ (r : Row). r.0.0))

pub length-turns : (s t vs : List Val) → length (turns s t vs) ≤ length vs
length-turns s t [] = omega arith
length-turns s t (v ∷ vs) =
    elim (held s v == held t v) as (λ b. length (if b then turns s t vs else (v, held t v == 1) ∷ turns s t vs) ≤ suc (length vs)) [
      | true ↦ omega (arith, length-turns s t vs)
      | false ↦ omega (arith, length-turns s t vs)
    ]

-- ---- which values they are

abbrev differs : List Val → List Val → Val → Bool
differs s t v = not (held s v == held t v)

abbrev told : List Val → Val → Val × Bool
told t v = (v, held t v == 1)

turns-filter : (s t vs : List Val) → turns s t vs ≡ map (told t) (filter (differs s t) vs)
turns-filter s t [] = refl
turns-filter s t (v ∷ vs) =
    elim (held s v == held t v) as (λ b. (if b then turns s t vs else told t v ∷ turns s t vs) ≡ map (told t) (cond (not b) (v ∷ filter (differs s t) vs) (filter (differs s t) vs))) [
      | true ↦ turns-filter s t vs
      | false ↦ ap (λ (rest : List (Val × Bool)). told t v ∷ rest) (turns-filter s t vs)
    ]

-- whichever ascending list has them all
pub turns-same : (s t vs ws : List Val) → AreAscending vs → AreAscending ws → ((v : Val) → held s v ≢ held t v → IsHeld vs v) → ((v : Val) → held s v ≢ held t v → IsHeld ws v) → turns s t vs ≡ turns s t ws
turns-same s t vs ws up_v up_w all_v all_w =
    turns-filter s t vs
    ∙ ap (map (told t)) (same_from_held (filter (differs s t) vs) (filter (differs s t) ws) (ascending-filter (differs s t) vs up_v) (ascending-filter (differs s t) ws up_w)
    (λ v. held-filter (differs s t) vs v ∙ same (held s v) (held t v) (held vs v) (held ws v) (all_v v) (all_w v) (held s v == held t v) refl ∙ sym (held-filter (differs s t) ws v)))
    ∙ sym (turns-filter s t ws) where
      same : (m n k l : ℕ) → (m ≢ n → k ≡ 1) → (m ≢ n → l ≡ 1) → (b : Bool) → (m == n) ≡ b → (if not (m == n) then k else 0) ≡ (if not (m == n) then l else 0)
      same m n k l p q true e = (λ i. if not (e i) then k else 0) ∙ sym (λ i. if not (e i) then l else 0)
      same m n k l p q false e = let other : m ≢ n = grind (arith, nat_tests, e) in ap (λ (o : ℕ). if not (m == n) then o else 0) (p other ∙ sym (q other))

-- ---- the fold

pub turns-corrected : (combined : ℤ → ℤ → ℤ) (undone : ℤ → ℤ) (lift : Val → ℤ) (s t : List Val) (a : ℤ) (vs : List Val)
    → fold (corrected combined undone lift s t) a vs ≡ fold (turned combined undone lift) a (turns s t vs)
turns-corrected combined undone lift s t a [] = refl
turns-corrected combined undone lift s t a (v ∷ vs) =
    elim (held s v == held t v) as (λ b. (held s v == held t v) ≡ b
    → fold (corrected combined undone lift s t) (if b then a else (if held s v == 0 then combined a (lift v) else combined a (undone (lift v)))) vs
    ≡ fold (turned combined undone lift) a (if b then turns s t vs else told t v ∷ turns s t vs)) [
      | true ↦ λ e. turns-corrected combined undone lift s t a vs
      | false ↦ λ e. ap (λ (b : Bool). fold (corrected combined undone lift s t) (if b then combined a (lift v) else combined a (undone (lift v))) vs) (came (held s v) (held t v) (held-small s v) (held-small t v) e)
          ∙ turns-corrected combined undone lift s t (if held t v == 1 then combined a (lift v) else combined a (undone (lift v))) vs
    ] refl where
      came : (m n : ℕ) → m ≤ 1 → n ≤ 1 → (m == n) ≡ false → (m == 0) ≡ (n == 1)
      came m n p q e = grind (arith, nat_tests, p, q, e)
