-- Tests that the items of a list pass up to a place.
use Rattle.std.proofs.Common.{◌≡◌, ℕ, zero, suc, ◌+◌, ◌≤◌, ◌<◌, Bool, true, false, cond, nat_lt, if◌then◌else◌, List, [], ◌∷◌, ◌++◌, length, filter, slice_index_or, refl, sym, ap, ◌∙◌, arith, Result, Ok, Err, OnOk, OnErr}
use Rattle.std.proofs.lemmas.Bool.Decides.{nat_tests}
use Rattle.lasp_dots.specs.Pieces.{many, IsParted}

positive : (n : ℕ) → true ≡ nat_lt 0 (suc n)
positive n = grind (arith, nat_tests)

shifted : (i n : ℕ) → nat_lt i n ≡ nat_lt (suc i) (suc n)
shifted i n = grind (arith, nat_tests)

never : (i : ℕ) → nat_lt i 0 ≡ nat_lt (suc i) 0
never i = grind (arith, nat_tests)

module _ {T : Type 0} where
  pub many-more : (test : T → Bool) (x : T) (s : List T) → many test (x ∷ s) ≡ (if test x then suc (many test s) else many test s)
  many-more test x s = elim (test x) as (λ b. length (cond b (x ∷ filter test s) (filter test s)) ≡ (if b then suc (many test s) else many test s)) [ true ↦ refl | false ↦ refl ]

  pub many-pass : (test : T → Bool) (x : T) (s : List T) → test x ≡ true → many test (x ∷ s) ≡ suc (many test s)
  many-pass test x s e = many-more test x s ∙ ap (λ (b : Bool). if b then suc (many test s) else many test s) e

  pub many-fail : (test : T → Bool) (x : T) (s : List T) → test x ≡ false → many test (x ∷ s) ≡ many test s
  many-fail test x s e = many-more test x s ∙ ap (λ (b : Bool). if b then suc (many test s) else many test s) e

  pub many-append : (test : T → Bool) (s t : List T) → many test (s ++ t) ≡ many test s + many test t
  many-append test [] t = omega arith
  many-append test (x ∷ s) t = choose (many-append test s t) (test x) refl where
    choose : many test (s ++ t) ≡ many test s + many test t → (b : Bool) → test x ≡ b → many test (x ∷ (s ++ t)) ≡ many test (x ∷ s) + many test t
    choose rest true e = omega (arith, rest, many-pass test x s e, many-pass test x (s ++ t) e)
    choose rest false e = omega (arith, rest, many-fail test x s e, many-fail test x (s ++ t) e)

  pub many-small : (test : T → Bool) (s : List T) → many test s ≤ length s
  many-small test [] = omega arith
  many-small test (x ∷ s) = omega (arith, many-more test x s, at (test x), many-small test s) where
    at : (b : Bool) → (if b then suc (many test s) else many test s) ≤ suc (many test s)
    at true = omega arith
    at false = omega arith

  -- ---- parts of a parted list

  parted-right : (test : T → Bool) (s t : List T) → IsParted test (s ++ t) → IsParted test t
  parted-right test [] t p = p
  parted-right test (x ∷ s) t p = parted-right test s t p.0

  parted-left : (test : T → Bool) (s t : List T) → IsParted test (s ++ t) → IsParted test s
  parted-left test [] t p = tt
  parted-left test (x ∷ s) t p = (parted-left test s t p.0, λ e. omega (arith, many-append test s t, p.1 e))

  pub parted-middle : (test : T → Bool) (s c t : List T) → IsParted test (s ++ (c ++ t)) → IsParted test c
  parted-middle test s c t p = parted-left test c t (parted-right test s (c ++ t) p)

  -- where as many pass as stand in front, all of these do
  all-front : (test : T → Bool) (s t : List T) → IsParted test (s ++ t) → length s ≤ many test (s ++ t) → many test s ≡ length s
  all-front test [] t p h = refl
  all-front test (x ∷ s) t p h = choose (λ k. all-front test s t p.0 k) (test x) refl where
    choose : (length s ≤ many test (s ++ t) → many test s ≡ length s) → (b : Bool) → test x ≡ b → many test (x ∷ s) ≡ suc (length s)
    choose rest true e = omega (arith, many-pass test x s e, rest (omega (arith, h, many-pass test x (s ++ t) e)))
    choose rest false e = absurd (omega (arith, h, many-fail test x (s ++ t) e, p.1 e))

  -- where no more pass than stand in front, none behind does
  none-behind : (test : T → Bool) (s t : List T) → IsParted test (s ++ t) → many test (s ++ t) ≤ length s → many test t ≡ 0
  none-behind test [] t p h = omega (arith, h)
  none-behind test (x ∷ s) t p h = choose (λ k. none-behind test s t p.0 k) (test x) refl where
    choose : (many test (s ++ t) ≤ length s → many test t ≡ 0) → (b : Bool) → test x ≡ b → many test t ≡ 0
    choose rest true e = rest (omega (arith, h, many-pass test x (s ++ t) e))
    choose rest false e = omega (arith, many-append test s t, p.1 e)

  -- the edge is in a part that begins before it and ends behind it
  pub many-middle : (test : T → Bool) (s c t : List T) → IsParted test (s ++ (c ++ t)) → length s ≤ many test (s ++ (c ++ t)) → many test (s ++ (c ++ t)) ≤ length s + length c
      → length s + many test c ≡ many test (s ++ (c ++ t))
  many-middle test s c t p low high =
      let front = all-front test s (c ++ t) p low in
      let behind = none-behind test c t (parted-right test s (c ++ t) p) (omega (arith, front, high, many-append test s (c ++ t))) in
      omega (arith, front, behind, many-append test s (c ++ t), many-append test c t)

  -- where some behind pass, all in front do
  pub behind-low : (test : T → Bool) (s t : List T) → IsParted test (s ++ t) → 0 < many test t → length s < many test (s ++ t)
  behind-low test [] t p h = h
  behind-low test (x ∷ s) t p h = choose (behind-low test s t p.0 h) (test x) refl where
    choose : length s < many test (s ++ t) → (b : Bool) → test x ≡ b → suc (length s) < many test (x ∷ (s ++ t))
    choose rest true e = omega (arith, rest, many-pass test x (s ++ t) e)
    choose rest false e = absurd (omega (arith, h, many-append test s t, p.1 e))

  -- where the first of some doesn't pass, none of them and none behind does
  none-after : (test : T → Bool) (c t : List T) → IsParted test (c ++ t) → 0 < length c → many test c ≡ 0 → many test (c ++ t) ≡ 0
  none-after test [] t p some none = absurd (omega (arith, some))
  none-after test (x ∷ c) t p some none = choose (test x) refl where
    choose : (b : Bool) → test x ≡ b → many test (x ∷ (c ++ t)) ≡ 0
    choose true e = absurd (omega (arith, none, many-pass test x c e))
    choose false e = many-fail test x (c ++ t) e ∙ p.1 e

  pub front-high : (test : T → Bool) (s c t : List T) → IsParted test (s ++ (c ++ t)) → 0 < length c → many test c ≡ 0 → many test (s ++ (c ++ t)) ≤ length s
  front-high test s c t p some none = omega (arith, many-append test s (c ++ t), many-small test s, none-after test c t (parted-right test s (c ++ t) p) some none)

  -- ---- an item by its place

  -- an item passes where its place is below the number of those that do
  pub many-at : (test : T → Bool) (s : List T) (i : ℕ) (d : T) → IsParted test s → i < length s → test (slice_index_or s i d) ≡ nat_lt i (many test s)
  many-at test [] i d p h = absurd (omega (arith, h))
  many-at test (x ∷ s) zero d p h = choose (test x) refl where
    choose : (b : Bool) → test x ≡ b → test x ≡ nat_lt 0 (many test (x ∷ s))
    choose true e = e ∙ positive (many test s) ∙ ap (nat_lt 0) (sym (many-pass test x s e))
    choose false e = e ∙ ap (nat_lt 0) (sym (many-fail test x s e ∙ p.1 e))
  many-at test (x ∷ s) (suc i) d p h = choose (many-at test s i d p.0 (omega (arith, h))) (test x) refl where
    choose : test (slice_index_or s i d) ≡ nat_lt i (many test s) → (b : Bool) → test x ≡ b → test (slice_index_or s i d) ≡ nat_lt (suc i) (many test (x ∷ s))
    choose rest true e = rest ∙ shifted i (many test s) ∙ ap (nat_lt (suc i)) (sym (many-pass test x s e))
    choose rest false e = rest ∙ ap (nat_lt i) (p.1 e) ∙ never i ∙ ap (nat_lt (suc i)) (sym (many-fail test x s e ∙ p.1 e))

  -- a search between the two ends
  pub search-init : (test : T → Bool) (s : List T) → (0 ≤ many test s) × (many test s ≤ length s) × (length s ≤ length s)
  search-init test s = (omega arith, many-small test s, omega arith)

  pub found-pass : (test : T → Bool) (s : List T) (i : ℕ) (x : T) → IsParted test s → i < length s → x ≡ slice_index_or s i x → test x ≡ true → i + 1 ≤ many test s
  found-pass test s i x p h is e =
      let yes : nat_lt i (many test s) ≡ true = sym (many-at test s i x p h) ∙ ap test (sym is) ∙ e in
      grind (arith, nat_tests, yes)

  pub found-fail : (test : T → Bool) (s : List T) (i : ℕ) (x : T) → IsParted test s → i < length s → x ≡ slice_index_or s i x → test x ≡ false → many test s ≤ i
  found-fail test s i x p h is e =
      let none : nat_lt i (many test s) ≡ false = sym (many-at test s i x p h) ∙ ap test (sym is) ∙ e in
      grind (arith, nat_tests, none)

-- a fact of a success that follows from another
pub on_ok : {A E P Q : Type 0} → (r : Result A E) → (P → Q) → OnOk r P → OnOk r Q
on_ok (Ok a) f h = f h
on_ok (Err e) f h = h

pub on_err : {A E P Q : Type 0} → (r : Result A E) → (P → Q) → OnErr r P → OnErr r Q
on_err (Ok a) f h = h
on_err (Err e) f h = f h
