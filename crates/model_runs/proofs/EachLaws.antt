-- What holds of each row, element or count of states holds of each of their join, and of what updates join in.
use Rattle.std.proofs.Common.{ℕ, zero, suc, ◌+◌, ◌<◌, max, Bool, true, false, cond, ◌||◌, List, [], ◌∷◌, ◌++◌, length, map, filter, replicate, slice_set, arith}
use Rattle.std.specs.List.{AllByRecursion}
use Rattle.std.specs.declared.cmp.Ordering.{Ordering}
use Rattle.std.specs.declared.cmp.Ordering.TheVariants.{Less, Equal, Greater}
use Rattle.std.specs.FinMap.Entries.{by_order}
use Rattle.model_values.specs.Value.{Val, val_cmp}
use Rattle.model_values.specs.Row.{Row, key_cmp}
pub use Rattle.model_values.proofs.ListLaws.{each-weaker}
use Rattle.model_sets.specs.Rows.{put, of_rows, join, is_of, buried, remove_delta}
use Rattle.model_sets.specs.Values.{add, of_values, unite}
use Rattle.model_states.specs.Counts.{count_at, larger}
use Rattle.model_wire.specs.Lawful.{IsRow}
use Rattle.model_runs.specs.Held.{AreBelow}

pub each-append : {A : Type 0} (P : A → Type 0) (xs ys : List A) → AllByRecursion P xs → AllByRecursion P ys → AllByRecursion P (xs ++ ys)
each-append P [] ys h g = g
each-append P (x ∷ xs) ys h g = (h.0, each-append P xs ys h.1 g)

pub each-replicate : {A : Type 0} (P : A → Type 0) (n : ℕ) (x : A) → P x → AllByRecursion P (replicate n x)
each-replicate P zero x h = tt
each-replicate P (suc n) x h = (h, each-replicate P n x h)

pub each-set : {A : Type 0} (P : A → Type 0) (xs : List A) (i : ℕ) (y : A) → AllByRecursion P xs → P y → AllByRecursion P (slice_set xs i y)
each-set P [] i y h g = tt
each-set P (x ∷ xs) zero y h g = (g, h.1)
each-set P (x ∷ xs) (suc i) y h g = (h.0, each-set P xs i y h.1 g)

-- ---- rows

module _ (nodes : ℕ) where
  each-put : (r : Row) (s : List Row) → IsRow nodes r → AllByRecursion (IsRow nodes) s → AllByRecursion (IsRow nodes) (put r s)
  each-put r [] h g = (h, tt)
  each-put r (q ∷ s) h g = choose (key_cmp r.0 q.0) (each-put r s h g.1) where
    choose : (o : Ordering) → AllByRecursion (IsRow nodes) (put r s) → AllByRecursion (IsRow nodes) (by_order o (r ∷ q ∷ s) ((q.0, r.1 || q.1) ∷ s) (q ∷ put r s))
    choose Less rest = (h, g)
    choose Equal rest = (g.0, g.1)
    choose Greater rest = (g.0, rest)

  each-of_rows : (s : List Row) → AllByRecursion (IsRow nodes) s → AllByRecursion (IsRow nodes) (of_rows s)
  each-of_rows [] h = tt
  each-of_rows (r ∷ s) h = each-put r (of_rows s) h.0 (each-of_rows s h.1)

  pub each-join : (s t : List Row) → AllByRecursion (IsRow nodes) s → AllByRecursion (IsRow nodes) t → AllByRecursion (IsRow nodes) (join s t)
  each-join s t h g = each-of_rows (s ++ t) (each-append (IsRow nodes) s t h g)

  pub each-removed : (v : Val) (s : List Row) → AllByRecursion (IsRow nodes) s → AllByRecursion (IsRow nodes) (remove_delta v s)
  each-removed v [] h = tt
  each-removed v (r ∷ s) h = choose (is_of v r) (each-removed v s h.1) where
    choose : (b : Bool) → AllByRecursion (IsRow nodes) (remove_delta v s) → AllByRecursion (IsRow nodes) (map buried (cond b (r ∷ filter (is_of v) s) (filter (is_of v) s)))
    choose true rest = (h.0, rest)
    choose false rest = rest

-- ---- elements

module _ (P : Val → Type 0) where
  each-add : (v : Val) (s : List Val) → P v → AllByRecursion P s → AllByRecursion P (add v s)
  each-add v [] h g = (h, tt)
  each-add v (w ∷ s) h g = choose (val_cmp v w) (each-add v s h g.1) where
    choose : (o : Ordering) → AllByRecursion P (add v s) → AllByRecursion P (by_order o (v ∷ w ∷ s) (w ∷ s) (w ∷ add v s))
    choose Less rest = (h, g)
    choose Equal rest = g
    choose Greater rest = (g.0, rest)

  each-of_values : (s : List Val) → AllByRecursion P s → AllByRecursion P (of_values s)
  each-of_values [] h = tt
  each-of_values (v ∷ s) h = each-add v (of_values s) h.0 (each-of_values s h.1)

  pub each-unite : (s t : List Val) → AllByRecursion P s → AllByRecursion P t → AllByRecursion P (unite s t)
  each-unite s t h g = each-of_values (s ++ t) (each-append P s t h g)

-- ---- counts

pub each-larger : (P : ℕ → Type 0) → ((c d : ℕ) → P c → P d → P (max c d)) → (s t : List ℕ) → AllByRecursion P s → AllByRecursion P t → AllByRecursion P (larger s t)
each-larger P f [] t h g = g
each-larger P f (c ∷ s) [] h g = h
each-larger P f (c ∷ s) (d ∷ t) h g = (f c d h.0 g.0, each-larger P f s t h.1 g.1)

pub below-at : (c p : ℕ) (counts : List ℕ) → AreBelow c counts → p < length counts → count_at counts p < c
below-at c p [] h low = absurd (omega (arith, low))
below-at c zero (n ∷ counts) h low = h.0
below-at c (suc p) (n ∷ counts) h low = below-at c p counts h.1 (omega (arith, low))

pub below-later : (c : ℕ) (counts : List ℕ) → AreBelow c counts → AreBelow (c + 1) counts
below-later c counts h = each-weaker (λ n. n < c) (λ n. n < c + 1) (λ n low. omega (arith, low)) counts h

pub below-counted : (c p : ℕ) (counts : List ℕ) → AreBelow c counts → AreBelow (c + 1) (slice_set counts p (count_at counts p + 1))
below-counted c p [] h = tt
below-counted c zero (n ∷ counts) h = (omega (arith, h.0), below-later c counts h.1)
below-counted c (suc p) (n ∷ counts) h = (omega (arith, h.0), below-counted c p counts h.1)

pub below-larger : (c : ℕ) (s t : List ℕ) → AreBelow c s → AreBelow c t → AreBelow c (larger s t)
below-larger c s t h g = each-larger (λ n. n < c) (λ m n low high. omega (arith, low, high)) s t h g
