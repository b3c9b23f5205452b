-- The laws of registers: each by the numbers that they reached.
use Rattle.std.proofs.Common.{◌≡◌, ◌≤◌, max, ℤ, ◌≤ℤ◌, int_le, int_lt, Bool, true, false, cond, FitsSigned, if◌then◌else◌, IsTrue, ◌↔◌, Option, Some, None, refl, sym, ap, ◌∙◌, arith}
use Rattle.std.proofs.lemmas.Int.{ints, clamps}
use Rattle.std.specs.Int.{int_max}
use mir.Syntax.{w64}
use Rattle.std.specs.Int.Signed.{le_z_yes}
use Rattle.model_sets.proofs.RowLaws.{as_T, as_true}
use Rattle.model_states.specs.Register.{later, IsNotLater, is_not_later, reaches, FitsTop}

int_le-yes : (m n : ℤ) → int_le m n ≡ true → m ≤ℤ n
int_le-yes m n e = le_z_yes (as_T (int_le m n) e)

int_le-true : (m n : ℤ) → m ≤ℤ n → int_le m n ≡ true
int_le-true m n h = as_true (int_le m n) h.le

int_le-no : (m n : ℤ) → int_le m n ≡ false → m ≤ℤ n → ⊥
int_le-no m n e h = clash (sym e ∙ int_le-true m n h) where
  clash : false ≡ true → ⊥
  clash e = cc

-- a number is at most the greater of two exactly where it is at most one of them
le-int_max : (n a b : ℤ) (p q r : Bool) → int_le n a ≡ p → int_le n b ≡ q → int_le n (int_max a b) ≡ r → (if r then 1 else 0) ≡ max (if p then 1 else 0) (if q then 1 else 0)
le-int_max n a b true q true x y z = omega (arith, small q) where
  small : (b : Bool) → (if b then 1 else 0) ≤ 1
  small true = omega arith
  small false = omega arith
le-int_max n a b true q false x y z = absurd (int_le-no n (int_max a b) z (omega (arith, ints, clamps, int_le-yes n a x)))
le-int_max n a b false true true x y z = refl
le-int_max n a b false true false x y z = absurd (int_le-no n (int_max a b) z (omega (arith, ints, clamps, int_le-yes n b y)))
le-int_max n a b false false false x y z = refl
le-int_max n a b false false true x y z = absurd (between (int_le a b) refl) where
  above : n ≤ℤ int_max a b
  above = int_le-yes n (int_max a b) z

  between : (c : Bool) → int_le a b ≡ c → ⊥
  between true e = int_le-no n b y (omega (arith, ints, clamps, above, int_le-yes a b e))
  between false e = int_le-no n a x (omega (arith, ints, clamps, above, other)) where
    other : b ≤ℤ a
    other = omega (arith, ints, λ (h : a ≤ℤ b). int_le-no a b e h)

pub reaches-later : (s t : Option ℤ) (n : ℤ) → reaches (later s t) n ≡ max (reaches s n) (reaches t n)
reaches-later None t n = omega arith
reaches-later (Some a) None n = omega arith
reaches-later (Some a) (Some b) n = le-int_max n a b (int_le n a) (int_le n b) (int_le n (int_max a b)) refl refl refl

-- ---- the order

reached : (m : ℤ) → reaches (Some m) m ≡ 1
reached m = ap (λ (b : Bool). if b then 1 else 0) (int_le-true m m (omega (arith, ints)))

pub not_later-reaches : (s t : Option ℤ) → IsNotLater s t → (n : ℤ) → reaches s n ≤ reaches t n
not_later-reaches None t h n = omega arith
not_later-reaches (Some a) None h n = absurd h
not_later-reaches (Some a) (Some b) h n = step (int_le n a) (int_le n b) refl refl where
  step : (p q : Bool) → int_le n a ≡ p → int_le n b ≡ q → (if p then 1 else 0) ≤ (if q then 1 else 0)
  step false q x y = omega arith
  step true true x y = omega arith
  step true false x y = absurd (int_le-no n b y (omega (arith, ints, h, int_le-yes n a x)))

pub reaches-not_later : (s t : Option ℤ) → ((n : ℤ) → reaches s n ≤ reaches t n) → IsNotLater s t
reaches-not_later None t h = tt
reaches-not_later (Some a) None h = absurd (omega (arith, h a, reached a))
reaches-not_later (Some a) (Some b) h = step (int_le a b) refl where
  step : (c : Bool) → int_le a b ≡ c → a ≤ℤ b
  step true e = int_le-yes a b e
  step false e = absurd (none (ap (λ (c : Bool). if c then 1 else 0) e)) where
    none : reaches (Some b) a ≡ 0 → ⊥
    none z = omega (arith, h a, reached a, z)

pub not_later-antisymmetric : (s t : Option ℤ) → IsNotLater s t → IsNotLater t s → s ≡ t
not_later-antisymmetric None None a b = refl
not_later-antisymmetric None (Some n) a b = absurd b
not_later-antisymmetric (Some m) None a b = absurd a
not_later-antisymmetric (Some m) (Some n) a b = ap Some (omega (arith, ints, a, b))

-- registers that reached the same numbers are the same
pub same_from_reaches : (s t : Option ℤ) → ((n : ℤ) → reaches s n ≡ reaches t n) → s ≡ t
same_from_reaches s t same =
    not_later-antisymmetric s t (reaches-not_later s t (λ n. omega (arith, same n))) (reaches-not_later t s (λ n. omega (arith, same n)))

pub register-test : (s t : Option ℤ) → IsTrue (is_not_later s t) ↔ IsNotLater s t
register-test None t = (λ h. tt, λ h. refl)
register-test (Some m) None = (λ h. clash h, λ h. absurd h) where
  clash : false ≡ true → ⊥
  clash e = cc
register-test (Some m) (Some n) = (int_le-yes m n, int_le-true m n)

pub not_later-words : (s t : Option ℤ) → IsNotLater s t ↔ ((n : ℤ) → reaches s n ≤ reaches t n)
not_later-words s t = (not_later-reaches s t, reaches-not_later s t)

pub ruleset register_laws = (reaches-later, not_later-words, same_from_reaches, register-test)

pub fits-later : (s t : Option ℤ) → FitsTop s → FitsTop t → FitsTop (later s t)
fits-later None t p q = q
fits-later (Some m) None p q = p
fits-later (Some m) (Some n) p q = choose (int_lt n m) where
  choose : (b : Bool) → FitsSigned w64 (cond b m n)
  choose true = p
  choose false = q
