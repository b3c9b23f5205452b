-- Places of lists: what has one more, and the first ones.
use Rattle.std.proofs.Common.{◌≡◌, ℕ, zero, suc, ◌≤◌, ◌<◌, List, [], ◌∷◌, ◌++◌, length, take, slice_index_or, refl, arith}
use Rattle.std.proofs.lemmas.List.{take-append-le, take_all}

-- what holds of the place i of a list with one more
pub at-more : {A : Type 0} (P : A → Type 0) (past : List A) (now new : A) (i : ℕ) → (i ≤ length past → P (slice_index_or past i now)) → (length past < i → P new) → P (slice_index_or (past ++ now ∷ []) i new)
at-more P [] now new zero old fresh = old (omega arith)
at-more P [] now new (suc i) old fresh = fresh (omega arith)
at-more P (x ∷ past) now new zero old fresh = old (omega arith)
at-more P (x ∷ past) now new (suc i) old fresh = at-more P past now new i (λ h. old (omega (arith, h))) (λ h. fresh (omega (arith, h)))

pub at-kept : {A : Type 0} (past : List A) (now new : A) (i : ℕ) → i ≤ length past → slice_index_or (past ++ now ∷ []) i new ≡ slice_index_or past i now
at-kept {A} past now new i h = at-more (λ (s : A). s ≡ slice_index_or past i now) past now new i (λ g. refl) (λ g. absurd (omega (arith, g, h)))

-- what holds of each place of a list that follows holds past the first one
pub past-append : {A : Type 0} (P : A → Type 0) (xs ys : List A) (i : ℕ) (d : A) → ((k : ℕ) → P (slice_index_or ys k d)) → length xs ≤ i → P (slice_index_or (xs ++ ys) i d)
past-append P [] ys i d all h = all i
past-append P (x ∷ xs) ys zero d all h = absurd (omega (arith, h))
past-append P (x ∷ xs) ys (suc i) d all h = past-append P xs ys i d all (omega (arith, h))

-- the kit's, with the arguments in our order
pub take-front : {A : Type 0} (xs ys : List A) (n : ℕ) → n ≤ length xs → take n (xs ++ ys) ≡ take n xs
take-front xs ys n = take-append-le n xs ys

pub take-whole : {A : Type 0} (xs : List A) (n : ℕ) → length xs ≤ n → take n xs ≡ xs
take-whole xs n = take_all n xs
