-- Places in lists that grow and shrink at their ends, and of pairs that are counted row by row.
use Rattle.std.proofs.Common.{◌≡◌, ℕ, zero, suc, ◌+◌, ◌*◌, ◌<◌, ◌⊎◌, inl, inr, List, [], ◌∷◌, ◌++◌, length, Some, refl, sym, ap, ◌∙◌, arith}
use Rattle.std.specs.Prelude.{slice_get}
use Rattle.std.proofs.lemmas.Option.{same_Some}
use Rattle.lasp_live.proofs.PostLaws.{times-most}

module _ {A : Type 0} where
  -- what is there is there where one more stands behind
  pub get-behind : (xs : List A) (y : A) (i : ℕ) (x : A) → slice_get xs i ≡ Some x → slice_get (xs ++ y ∷ []) i ≡ Some x
  get-behind [] y i x at = absurd cc
  get-behind (z ∷ xs) y zero x at = at
  get-behind (z ∷ xs) y (suc i) x at = get-behind xs y i x at

  pub get-last : (xs : List A) (y : A) → slice_get (xs ++ y ∷ []) (length xs) ≡ Some y
  get-last [] y = refl
  get-last (z ∷ xs) y = get-last xs y

  -- what is there stands before the last, or is the last
  pub get-either : (xs : List A) (y : A) (i : ℕ) (x : A) → slice_get (xs ++ y ∷ []) i ≡ Some x → (slice_get xs i ≡ Some x) ⊎ ((i ≡ length xs) × (x ≡ y))
  get-either [] y zero x at = inr (refl, sym (same_Some y x at))
  get-either [] y (suc i) x at = absurd cc
  get-either (z ∷ xs) y zero x at = inl at
  get-either (z ∷ xs) y (suc i) x at = choose (get-either xs y i x at) where
    choose : (slice_get xs i ≡ Some x) ⊎ ((i ≡ length xs) × (x ≡ y)) → (slice_get xs i ≡ Some x) ⊎ ((suc i ≡ suc (length xs)) × (x ≡ y))
    choose (inl here) = inl here
    choose (inr last) = inr (ap suc last.0, last.1)

  -- and stands there where the last is gone
  pub get-before : (xs : List A) (y : A) (i : ℕ) (x : A) → i < length xs → slice_get (xs ++ y ∷ []) i ≡ Some x → slice_get xs i ≡ Some x
  get-before [] y i x low at = absurd (omega (arith, low))
  get-before (z ∷ xs) y zero x low at = at
  get-before (z ∷ xs) y (suc i) x low at = get-before xs y i x (omega (arith, low)) at

  pub found-at : (xs : List A) (i : ℕ) → i < length xs → (x : A) × (slice_get xs i ≡ Some x)
  found-at [] i low = absurd (omega (arith, low))
  found-at (z ∷ xs) zero low = (z, refl)
  found-at (z ∷ xs) (suc i) low = found-at xs i (omega (arith, low))

  pub nothing : (xs : List A) → length xs ≡ 0 → xs ≡ []
  nothing [] none = refl
  nothing (z ∷ xs) none = absurd (omega (arith, none))

-- ---- row by row

pub rows-more : (q n : ℕ) → (q + 1) * n ≡ q * n + n
rows-more q n = ap (λ (m : ℕ). m * n) (let next : q + 1 ≡ suc q = omega arith in next) ∙ omega arith

-- a place of an earlier row stands before a later row
pub rows-below : (k q n j : ℕ) → k < q → j < n → k * n + j < q * n
rows-below k q n j low less = let next = times-most (k + 1) q n (omega (arith, low)) in let more = rows-more k n in omega (arith, next, more, less)
