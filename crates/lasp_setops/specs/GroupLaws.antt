-- What the groups prove of themselves.
use Rattle.std.proofs.Common.{◌≡◌, ℕ, zero, suc, ◌+◌, ◌^◌, ◌≤◌, ℤ, pos, negsuc, ◌+ℤ◌, neg_ℤ, FitsSigned, refl, arith}
use Rattle.std.proofs.lemmas.Bool.Decides.{nat_tests}
use Rattle.std.proofs.lemmas.Int.{ints}
use mir.Syntax.{w64}
use Rattle.model_graph.specs.Graph.{Sum, Xor, Modulo}
use Rattle.model_graph.specs.Fold.{combined, inverse, is_member, taken}
use Rattle.model_graph.proofs.GroupLaws.{fold-group, taken-member}
use Rattle.lasp_setops.specs.Group.{IsSizedGroup, magnitude}

magnitude-fits : (n : ℤ) → FitsSigned w64 n → magnitude n ≤ 2 ^ 63
magnitude-fits (pos n) h = grind (arith, nat_tests, h.sfits)
magnitude-fits (negsuc n) h = grind (arith, nat_tests, h.sfits)

magnitude-negated : (a : ℤ) → magnitude (neg_ℤ a) ≡ magnitude a
magnitude-negated (pos zero) = refl
magnitude-negated (pos (suc n)) = omega arith
magnitude-negated (negsuc n) = omega arith

magnitude-sum : (a b : ℤ) → magnitude (a +ℤ b) ≤ magnitude a + magnitude b
magnitude-sum (pos a) (pos b) = omega arith
magnitude-sum (pos a) (negsuc b) = grind (arith, ints)
magnitude-sum (negsuc a) (pos b) = grind (arith, ints)
magnitude-sum (negsuc a) (negsuc b) = omega arith

-- sums have the size of the number
pub sums : IsSizedGroup (is_member Sum) (combined Sum) (pos 0) (inverse Sum) (taken Sum) magnitude
sums = record {
  group = fold-group Sum tt;
  lifts = λ n fits. refl;
  size_unit = refl;
  size_taken = magnitude-fits;
  size_combined = magnitude-sum;
  size_undone = magnitude-negated;
}

-- bits take no room
pub bits : IsSizedGroup (is_member Xor) (combined Xor) (pos 0) (inverse Xor) (taken Xor) (λ a. 0)
bits = record {
  group = fold-group Xor tt;
  lifts = λ n fits. taken-member Xor tt n;
  size_unit = refl;
  size_taken = λ n fits. omega arith;
  size_combined = λ a b. omega arith;
  size_undone = λ a. refl;
}

-- nor do remainders
pub remainders : (m : ℕ) → 1 ≤ m → IsSizedGroup (is_member (Modulo m)) (combined (Modulo m)) (pos 0) (inverse (Modulo m)) (taken (Modulo m)) (λ a. 0)
remainders m some = record {
  group = fold-group (Modulo m) some;
  lifts = λ n fits. taken-member (Modulo m) some n;
  size_unit = refl;
  size_taken = λ n fits. omega arith;
  size_combined = λ a b. omega arith;
  size_undone = λ a. refl;
}
