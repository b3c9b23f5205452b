-- Lists of which one element is replaced.
use Rattle.std.proofs.Common.{◌≡◌, ℕ, zero, suc, ◌+◌, ◌<◌, ◌≤◌, List, [], ◌∷◌, ◌++◌, length, take, refl, sym, ap, subst, ◌∙◌, arith}
use Rattle.std.specs.Prelude.{All, slice_set, slice_index_or, map}
use Rattle.std.specs.List.{AllZip, sum_by, fold}
use Rattle.std.proofs.lemmas.List.Elements.{All-head, All-tail, All-cons}

-- each element is as it was, or is this one
pub zip-set : {A : Type 0} (R : A → A → Type 0) (xs ys : List A) (i : ℕ) (d y : A) → AllZip R xs ys → i < length ys → ((x : A) → R x (slice_index_or ys i d) → R x y) → AllZip R xs (slice_set ys i y)
zip-set R [] [] i d y all low step = tt
zip-set R [] (z ∷ ys) i d y all low step = absurd all
zip-set R (x ∷ xs) [] i d y all low step = absurd all
zip-set R (x ∷ xs) (z ∷ ys) zero d y all low step = (step x all.0, all.1)
zip-set R (x ∷ xs) (z ∷ ys) (suc i) d y all low step = (all.0, zip-set R xs ys i d y all.1 (omega (arith, low)) step)

pub zip-itself : {A : Type 0} (R : A → A → Type 0) → ((x : A) → R x x) → (xs : List A) → AllZip R xs xs
zip-itself R same [] = tt
zip-itself R same (x ∷ xs) = (same x, zip-itself R same xs)

pub zip-chain : {A : Type 0} (R : A → A → Type 0) → ((x y z : A) → R x y → R y z → R x z) → (xs ys zs : List A) → AllZip R xs ys → AllZip R ys zs → AllZip R xs zs
zip-chain R chain [] [] [] a b = tt
zip-chain R chain [] [] (z ∷ zs) a b = absurd b
zip-chain R chain [] (y ∷ ys) zs a b = absurd a
zip-chain R chain (x ∷ xs) [] zs a b = absurd a
zip-chain R chain (x ∷ xs) (y ∷ ys) [] a b = absurd b
zip-chain R chain (x ∷ xs) (y ∷ ys) (z ∷ zs) a b = (chain x y z a.0 b.0, zip-chain R chain xs ys zs a.1 b.1)

-- ---- sums

sum-from : {A : Type 0} (f : A → ℕ) (xs : List A) (a : ℕ) → fold (λ b x. b + f x) a xs ≡ a + sum_by f xs
sum-from f [] a = omega arith
sum-from f (x ∷ xs) a =
    let near : sum_by f (x ∷ xs) ≡ (0 + f x) + sum_by f xs = sum-from f xs (0 + f x) in
    sum-from f xs (a + f x) ∙ omega (arith, near)

pub sum-first : {A : Type 0} (f : A → ℕ) (x : A) (xs : List A) → sum_by f (x ∷ xs) ≡ f x + sum_by f xs
sum-first f x xs = sum-from f xs (0 + f x) ∙ omega arith

-- a sum of which one part is replaced
pub sum-set : {A : Type 0} (f : A → ℕ) (xs : List A) (i : ℕ) (d y : A) → i < length xs → sum_by f (slice_set xs i y) + f (slice_index_or xs i d) ≡ sum_by f xs + f y
sum-set f [] i d y low = absurd (omega (arith, low))
sum-set f (x ∷ xs) zero d y low =
    let one = sum-first f y xs in
    let other = sum-first f x xs in
    omega (arith, one, other)
sum-set f (x ∷ xs) (suc i) d y low =
    let rest = sum-set f xs i d y (omega (arith, low)) in
    let one = sum-first f x (slice_set xs i y) in
    let other = sum-first f x xs in
    omega (arith, rest, one, other)

pub map-set : {A B : Type 0} (f : A → B) (xs : List A) (i : ℕ) (y : A) → map f (slice_set xs i y) ≡ slice_set (map f xs) i (f y)
map-set f [] i y = refl
map-set f (x ∷ xs) zero y = refl
map-set f (x ∷ xs) (suc i) y = ap (λ l. f x ∷ l) (map-set f xs i y)

-- what holds of each element where one was replaced holds of that one
pub All-get-set : {A : Type 0} (P : A → Type 0) (xs : List A) (i : ℕ) (y : A) → i < length xs → All P (slice_set xs i y) → P y
All-get-set P [] i y low all = absurd (omega (arith, low))
All-get-set P (x ∷ xs) zero y low all = All-head P y xs all
All-get-set P (x ∷ xs) (suc i) y low all = All-get-set P xs i y (omega (arith, low)) (All-tail P x (slice_set xs i y) all)

-- and of each element before, if of the one that stood there
pub All-unset : {A : Type 0} (P : A → Type 0) (xs : List A) (i : ℕ) (d y : A) → i < length xs → P (slice_index_or xs i d) → All P (slice_set xs i y) → All P xs
All-unset P [] i d y low was all = absurd (omega (arith, low))
All-unset P (x ∷ xs) zero d y low was all = All-cons P x xs was (All-tail P y xs all)
All-unset P (x ∷ xs) (suc i) d y low was all = All-cons P x xs (All-head P x (slice_set xs i y) all) (All-unset P xs i d y (omega (arith, low)) was (All-tail P x (slice_set xs i y) all))

-- what was written over all of a list is what stands there
pub written-back : {A : Type 0} (new rest : List A) (n : ℕ) → length new ≡ n → take n (new ++ rest) ≡ new
written-back [] [] zero e = refl
written-back [] (x ∷ rest) zero e = refl
written-back [] rest (suc n) e = absurd (omega (arith, e))
written-back (x ∷ new) rest zero e = absurd (omega (arith, e))
written-back (x ∷ new) rest (suc n) e = ap (λ l. x ∷ l) (written-back new rest n (omega (arith, e)))
