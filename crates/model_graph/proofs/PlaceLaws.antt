-- Places of lists: the kit's laws under the names that are used here, and what holds of each place of lists that grow or are set.
use Rattle.std.proofs.Common.{◌≡◌, ℕ, zero, suc, ◌+◌, ◌<◌, List, [], ◌∷◌, ◌++◌, length, map, slice_index_or, slice_set, refl, arith}
use Rattle.std.proofs.lemmas.List.{length-map, get_or_append_left, get_or_push, ext_get_or}
pub use Rattle.std.proofs.lemmas.Bool.{cases_lt as below-or-not, eqb-true as equal-numbers}
pub use Rattle.std.proofs.lemmas.List.{length-append, length_push as length-push, length-set as set-length, length-replicate, get_or_past as at-past, get_or-map as at-map-low, get_or-replicate as at-replicate}
pub use Rattle.std.proofs.Math.ListN.{get_or-map as at-map}

-- the kit's, with the arguments in our order
pub map-length : {A B : Type 0} (f : A → B) (xs : List A) → length (map f xs) ≡ length xs
map-length f xs = length-map xs f

pub at-append : {A : Type 0} (xs ys : List A) (i : ℕ) (d : A) → i < length xs → slice_index_or (xs ++ ys) i d ≡ slice_index_or xs i d
at-append xs ys i d = get_or_append_left xs ys d i

pub at-last : {A : Type 0} (xs : List A) (y d : A) → slice_index_or (xs ++ y ∷ []) (length xs) d ≡ y
at-last xs y d = get_or_push xs y d (length xs) refl

pub same-lists : {A : Type 0} (xs ys : List A) (d : A) → length xs ≡ length ys → ((i : ℕ) → i < length xs → slice_index_or xs i d ≡ slice_index_or ys i d) → xs ≡ ys
same-lists xs ys d = ext_get_or d xs ys

pub from-nothing : (i : ℕ) → i ≡ 0 + i
from-nothing i = omega arith

-- what holds of every place of a list holds of it with one more, where it holds of that one
pub at-push : {A : Type 0} (P : A → Type 0) (xs : List A) (y d : A) → ((i : ℕ) → P (slice_index_or xs i d)) → P y → (i : ℕ) → P (slice_index_or (xs ++ y ∷ []) i d)
at-push P [] y d old here zero = here
at-push P [] y d old here (suc i) = old (suc i)
at-push P (x ∷ xs) y d old here zero = old 0
at-push P (x ∷ xs) y d old here (suc i) = at-push P xs y d (λ j. old (suc j)) here i

-- the same of two lists of one length
pub pairs-push : {A B : Type 0} (P : A → B → Type 0) (xs : List A) (ys : List B) (x d : A) (y e : B) → length xs ≡ length ys
    → ((i : ℕ) → P (slice_index_or xs i d) (slice_index_or ys i e)) → P x y → (i : ℕ) → P (slice_index_or (xs ++ x ∷ []) i d) (slice_index_or (ys ++ y ∷ []) i e)
pairs-push P [] [] x d y e long old here zero = here
pairs-push P [] [] x d y e long old here (suc i) = old (suc i)
pairs-push P [] (u ∷ ys) x d y e long old here i = absurd (omega (arith, long))
pairs-push P (z ∷ xs) [] x d y e long old here i = absurd (omega (arith, long))
pairs-push P (z ∷ xs) (u ∷ ys) x d y e long old here zero = old 0
pairs-push P (z ∷ xs) (u ∷ ys) x d y e long old here (suc i) = pairs-push P xs ys x d y e (omega (arith, long)) (λ j. old (suc j)) here i

-- what holds of a place after one was set
pub at-set : {A : Type 0} (P : A → Type 0) (xs : List A) (p : ℕ) (y d : A) (q : ℕ) → q < length xs → (q ≡ p → P y) → ((q ≡ p → ⊥) → P (slice_index_or xs q d)) → P (slice_index_or (slice_set xs p y) q d)
at-set P [] p y d q h here other = absurd (omega (arith, h))
at-set P (x ∷ xs) zero y d zero h here other = here refl
at-set P (x ∷ xs) zero y d (suc q) h here other = other (λ e. omega (arith, e))
at-set P (x ∷ xs) (suc p) y d zero h here other = other (λ e. omega (arith, e))
at-set P (x ∷ xs) (suc p) y d (suc q) h here other = at-set P xs p y d q (omega (arith, h)) (λ e. here (omega (arith, e))) (λ n. other (λ e. n (omega (arith, e))))
