-- The laws of the register.
use Rattle.std.proofs.Common.{◌≡◌, ℤ, ◌≤ℤ◌, ◌<ℤ◌, Option, None, Some, refl, ap, arith, Bool, true, false, IsTrue, ◌↔◌, if◌then◌else◌}
use Rattle.std.proofs.lemmas.Int.{ints, clamps}
use Rattle.std.specs.Ordering.{int_cmp, MatchOrdering}
use Rattle.std.specs.Cmp.{int_ranked}
use Rattle.std.specs.declared.cmp.Ordering.{Ordering}
use Rattle.std.specs.declared.cmp.Ordering.TheVariants.{Less, Equal, Greater}
use Rattle.model_states.specs.Register.{later, IsNotLater}
use Rattle.model_states.proofs.RegisterLaws.{not_later-antisymmetric}

pub not_later-reflexive : (s : Option ℤ) → IsNotLater s s
not_later-reflexive None = tt
not_later-reflexive (Some m) = omega (arith, ints)

pub not_later-transitive : (s t u : Option ℤ) → IsNotLater s t → IsNotLater t u → IsNotLater s u
not_later-transitive None t u a b = tt
not_later-transitive (Some m) None u a b = absurd a
not_later-transitive (Some m) (Some n) None a b = absurd b
not_later-transitive (Some m) (Some n) (Some k) a b = omega (arith, ints, a, b)

pub later-idempotent : (s : Option ℤ) → later s s ≡ s
later-idempotent None = refl
later-idempotent (Some m) = ap Some (omega (arith, ints, clamps))

pub later-commutative : (s t : Option ℤ) → later s t ≡ later t s
later-commutative None None = refl
later-commutative None (Some n) = refl
later-commutative (Some m) None = refl
later-commutative (Some m) (Some n) = ap Some (omega (arith, ints, clamps))

pub later-associative : (s t u : Option ℤ) → later (later s t) u ≡ later s (later t u)
later-associative None t u = refl
later-associative (Some m) None u = refl
later-associative (Some m) (Some n) None = refl
later-associative (Some m) (Some n) (Some k) = ap Some (omega (arith, ints, clamps))

pub later-left : (s t : Option ℤ) → IsNotLater s (later s t)
later-left None t = tt
later-left (Some m) None = omega (arith, ints)
later-left (Some m) (Some n) = omega (arith, ints, clamps)

pub later-right : (s t : Option ℤ) → IsNotLater t (later s t)
later-right None t = not_later-reflexive t
later-right (Some m) None = tt
later-right (Some m) (Some n) = omega (arith, ints, clamps)

pub later-least : (s t u : Option ℤ) → IsNotLater s u → IsNotLater t u → IsNotLater (later s t) u
later-least None t u a b = b
later-least (Some m) None u a b = a
later-least (Some m) (Some n) None a b = absurd a
later-least (Some m) (Some n) (Some k) a b = omega (arith, ints, clamps, a, b)

other_way : (m n : ℤ) (o : Ordering) → MatchOrdering o (m <ℤ n) (m ≡ n) (n <ℤ m) → ¬ (n ≤ℤ m) → m ≤ℤ n
other_way m n Less r above = omega (arith, ints, r)
other_way m n Equal r above = omega (arith, ints, r)
other_way m n Greater r above = absurd (above (omega (arith, ints, r)))

-- what the test of the order decides: the greater of the two is the join
pub later-test : (s t : Option ℤ) (within : Bool) → IsTrue within ↔ IsNotLater t s → later s t ≡ (if within then s else t)
later-test s t true h = not_later-antisymmetric (later s t) s (later-least s t s (not_later-reflexive s) (h.0 refl)) (later-left s t)
later-test None t false h = refl
later-test (Some m) None false h = absurd (wrong (h.1 tt)) where
  wrong : IsTrue false → ⊥
  wrong e = cc
later-test (Some m) (Some n) false h = ap Some (omega (arith, ints, clamps, other_way m n (int_cmp m n) (int_ranked m n (int_cmp m n) refl) (λ le. wrong (h.1 le)))) where
  wrong : IsTrue false → ⊥
  wrong e = cc

pub ruleset lattice = (later-test, not_later-reflexive)
