-- Lists as clauses speak of them: what stands at a place, what is left from a place on, and what holds of each element. The kit's own laws come first (`rt lemma`): here is what they leave.
use Rattle.std.proofs.Common.{◌≡◌, ℕ, zero, suc, ◌+◌, ◌≤◌, ◌<◌, List, [], ◌∷◌, ◌++◌, length, take, drop, filter, Bool, true, false, cond, Some, refl, subst, ap, ◌∙◌, arith}
use Rattle.std.specs.Prelude.{slice_get}
use Rattle.std.specs.List.{AllByRecursion}
use Rattle.std.proofs.lemmas.List.{drop_more, length-take}
use Rattle.std.proofs.lemmas.Option.{slice_get_within, get_or_from_slice_get}

-- ---- places

pub drop-at : {A : Type 0} (xs : List A) (i : ℕ) (x : A) → slice_get xs i ≡ Some x → drop i xs ≡ x ∷ drop (i + 1) xs
drop-at xs i x e = drop_more xs i x (slice_get_within xs i x e) ∙ ap (λ y. y ∷ drop (i + 1) xs) (get_or_from_slice_get xs i x x e)

pub some-at : {A : Type 0} (xs : List A) (i : ℕ) → i < length xs → (x : A) × (slice_get xs i ≡ Some x)
some-at [] i h = absurd (omega (arith, h))
some-at (x ∷ xs) zero h = (x, refl)
some-at (x ∷ xs) (suc i) h = some-at xs i (omega (arith, h))

pub length-take_least : {A : Type 0} (xs : List A) (n : ℕ) → length (take n xs) ≤ n
length-take_least xs n = omega (arith, length-take n xs)

pub length-filter_least : {A : Type 0} (test : A → Bool) (xs : List A) → length (filter test xs) ≤ length xs
length-filter_least test [] = omega arith
length-filter_least test (x ∷ xs) = choose (test x) (length-filter_least test xs) where
  choose : (b : Bool) → length (filter test xs) ≤ length xs → length (cond b (x ∷ filter test xs) (filter test xs)) ≤ suc (length xs)
  choose true rest = omega (arith, rest)
  choose false rest = omega (arith, rest)

-- ---- each element

pub each-at : {A : Type 0} (P : A → Type 0) (xs : List A) (i : ℕ) (x : A) → AllByRecursion P xs → slice_get xs i ≡ Some x → P x
each-at P [] i x each e = absurd cc
each-at P (y ∷ xs) zero x each e = let same : y ≡ x = cc in subst P same each.0
each-at P (y ∷ xs) (suc i) x each e = each-at P xs i x each.1 e

pub each-weaker : {A : Type 0} (P Q : A → Type 0) → ((x : A) → P x → Q x) → (xs : List A) → AllByRecursion P xs → AllByRecursion Q xs
each-weaker P Q then [] each = tt
each-weaker P Q then (x ∷ xs) each = (then x each.0, each-weaker P Q then xs each.1)

pub each-push : {A : Type 0} (P : A → Type 0) (xs : List A) (x : A) → AllByRecursion P xs → P x → AllByRecursion P (xs ++ x ∷ [])
each-push P [] x each here = (here, tt)
each-push P (y ∷ xs) x each here = (each.0, each-push P xs x each.1 here)
