-- A fold's combine makes a commutative group of the numbers that it works on.
use Rattle.std.proofs.Common.{◌≡◌, ℕ, zero, suc, ◌+◌, ◌-◌, ◌%◌, ◌^◌, ◌≤◌, ◌<◌, nat_lt, ℤ, pos, negsuc, ◌+ℤ◌, neg_ℤ, FitsSigned, IsTrue, List, fold, refl, sym, ap, ◌∙◌, arith}
use Rattle.std.proofs.lemmas.Bool.Decides.{nat_tests}
use Rattle.std.proofs.Math.IntN.{+ℤ_assoc, +ℤ_comm, +ℤ_idr, +ℤ_invr}
use Rattle.std.proofs.Math.Nat.{mod-lt, mod-eq_of_lt, mod_self, mod-add-mod, add-mod-mod, add_assoc}
use Rattle.std.proofs.lemmas.Int.{to_z-of_z, of_z-to_z, SFits-int_wrap}
use Rattle.std.proofs.Math.Facts.{Fits-of_z, sfits_to_z}
use Rattle.std.proofs.lemmas.Nat.{xor_lt, xor_comm}
use Rattle.std.specs.Int.Bits.{bit_xor, xor_assoc, xor_self, xor_zero_r}
use Rattle.std.specs.Int.{cast_signed, cast_unsigned, int_bit_xor, int_rem_euclid, int_wrap}
use mir.Syntax.{w128}
use Rattle.model_values.specs.Value.{Val}
use Rattle.model_functions.specs.Lift.{LiftOp, lifted}
use Rattle.model_values.specs.Row.{Row}
use Rattle.model_sets.specs.Rows.{IsAscending, IsAtMost}
use Rattle.model_sets.specs.Values.{visible, row_values}
use Rattle.model_sets.specs.Equations.{changed}
use Rattle.model_sets.specs.Folds.{IsFoldGroup, corrected}
use Rattle.model_sets.proofs.FoldLaws.{fold-rows}
use Rattle.model_graph.specs.Graph.{FoldOp, Sum, Xor, Modulo}
use Rattle.model_graph.specs.Lawful.{IsFoldOp}
use Rattle.model_graph.specs.Fold.{taken, combined, inverse, is_of_128_bits, is_remainder, is_member, fold_rows}

-- ---- sums

sum-group : IsFoldGroup (is_member Sum) (combined Sum) (pos 0) (inverse Sum)
sum-group = record {
  neutral_in = refl;
  op_in = λ a b p q. refl;
  inverse_in = λ a p. refl;
  associative = λ a b c p q r. +ℤ_assoc a b c;
  commutative = λ a b p q. +ℤ_comm a b;
  neutral_right = λ a p. +ℤ_idr a;
  inverse_right = λ a p. +ℤ_invr a;
}

-- ---- bits

member-fits : (a : ℤ) → IsTrue (is_of_128_bits a) → FitsSigned w128 a
member-fits (pos n) h = record { sfits = grind (arith, nat_tests, h) }
member-fits (negsuc n) h = record { sfits = grind (arith, nat_tests, h) }

fits-member : (a : ℤ) → FitsSigned w128 a → IsTrue (is_of_128_bits a)
fits-member (pos n) h = grind (arith, nat_tests, h.sfits)
fits-member (negsuc n) h = grind (arith, nat_tests, h.sfits)

bits-small : (a : ℤ) → IsTrue (is_of_128_bits a) → cast_unsigned w128 a < 2 ^ 128
bits-small a h = (Fits-of_z {w = w128} {z = a} (member-fits a h)).fits

xor-small : (a b : ℤ) → IsTrue (is_of_128_bits a) → IsTrue (is_of_128_bits b) → bit_xor (cast_unsigned w128 a) (cast_unsigned w128 b) < 2 ^ 128
xor-small a b p q = xor_lt 128 (cast_unsigned w128 a) (cast_unsigned w128 b) (bits-small a p) (bits-small b q)

xor-bits : (a b : ℤ) → IsTrue (is_of_128_bits a) → IsTrue (is_of_128_bits b) → cast_unsigned w128 (int_bit_xor w128 a b) ≡ bit_xor (cast_unsigned w128 a) (cast_unsigned w128 b)
xor-bits a b p q = of_z-to_z w128 (bit_xor (cast_unsigned w128 a) (cast_unsigned w128 b)) (xor-small a b p q)

xor-in : (a b : ℤ) → IsTrue (is_of_128_bits a) → IsTrue (is_of_128_bits b) → IsTrue (is_of_128_bits (int_bit_xor w128 a b))
xor-in a b p q = fits-member (int_bit_xor w128 a b) (sfits_to_z {w = w128} {n = bit_xor (cast_unsigned w128 a) (cast_unsigned w128 b)} (record { fits = xor-small a b p q }))

xor-group : IsFoldGroup (is_member Xor) (combined Xor) (pos 0) (inverse Xor)
xor-group = record {
  neutral_in = refl;
  op_in = xor-in;
  inverse_in = λ a p. p;
  associative = λ a b c p q r.
      (λ i. cast_signed w128 (bit_xor (xor-bits a b p q i) (cast_unsigned w128 c)))
      ∙ ap (cast_signed w128) (xor_assoc (cast_unsigned w128 a) (cast_unsigned w128 b) (cast_unsigned w128 c))
      ∙ (λ i. cast_signed w128 (bit_xor (cast_unsigned w128 a) (sym (xor-bits b c q r) i)));
  commutative = λ a b p q. ap (cast_signed w128) (xor_comm (cast_unsigned w128 a) (cast_unsigned w128 b));
  neutral_right = λ a p. ap (cast_signed w128) (xor_zero_r (cast_unsigned w128 a)) ∙ to_z-of_z w128 a (member-fits a p);
  inverse_right = λ a p. ap (cast_signed w128) (xor_self (cast_unsigned w128 a));
}

-- ---- remainders

remainder-in : (m : ℕ) → 1 ≤ m → (n : ℤ) → IsTrue (is_remainder m (int_rem_euclid n (pos m)))
remainder-in m some (pos a) = grind (arith, nat_tests, mod-lt a some)
remainder-in m some (negsuc a) = grind (arith, nat_tests, mod-lt a some, some)

member-small : (m n : ℕ) → IsTrue (nat_lt n m) → n < m
member-small m n h = grind (arith, nat_tests, h)

modulo-associative : (m : ℕ) (a b c : ℤ) → IsTrue (is_remainder m a) → IsTrue (is_remainder m b) → IsTrue (is_remainder m c)
    → combined (Modulo m) (combined (Modulo m) a b) c ≡ combined (Modulo m) a (combined (Modulo m) b c)
modulo-associative m (pos a) (pos b) (pos c) p q r = ap pos (mod-add-mod (a + b) m c ∙ ap (λ (n : ℕ). n % m) (add_assoc a b c) ∙ sym (add-mod-mod a (b + c) m))
modulo-associative m (negsuc a) b c p q r = cc
modulo-associative m (pos a) (negsuc b) c p q r = cc
modulo-associative m (pos a) (pos b) (negsuc c) p q r = cc

modulo-neutral : (m : ℕ) (a : ℤ) → IsTrue (is_remainder m a) → combined (Modulo m) a (pos 0) ≡ a
modulo-neutral m (pos a) p = ap pos (ap (λ (n : ℕ). n % m) (let e : a + 0 ≡ a = omega arith in e) ∙ mod-eq_of_lt (member-small m a p))
modulo-neutral m (negsuc a) p = cc

modulo-inverse : (m : ℕ) → 1 ≤ m → (a : ℤ) → IsTrue (is_remainder m a) → combined (Modulo m) a (inverse (Modulo m) a) ≡ pos 0
modulo-inverse m some (pos zero) p = ap pos (add-mod-mod 0 0 m ∙ mod-eq_of_lt (let low : 0 < m = omega (arith, some) in low))
modulo-inverse m some (pos (suc a)) p =
    let small : suc a < m = member-small m (suc a) p in
    let left : a % m ≡ a = mod-eq_of_lt (let low : a < m = omega (arith, small) in low) in
    ap (λ (n : ℕ). pos ((suc a + (m - 1 - n)) % m)) left ∙ ap (λ (n : ℕ). pos (n % m)) (let whole : suc a + (m - 1 - a) ≡ m = omega (arith, small) in whole) ∙ ap pos (mod_self m)
modulo-inverse m some (negsuc a) p = cc

modulo-group : (m : ℕ) → 1 ≤ m → IsFoldGroup (is_member (Modulo m)) (combined (Modulo m)) (pos 0) (inverse (Modulo m))
modulo-group m some = record {
  neutral_in = grind (arith, nat_tests, some);
  op_in = λ a b p q. remainder-in m some (a +ℤ b);
  inverse_in = λ a p. remainder-in m some (neg_ℤ a);
  associative = modulo-associative m;
  commutative = λ a b p q. ap (λ (n : ℤ). int_rem_euclid n (pos m)) (+ℤ_comm a b);
  neutral_right = modulo-neutral m;
  inverse_right = modulo-inverse m some;
}

-- ---- every fold

pub fold-group : (op : FoldOp) → IsFoldOp op → IsFoldGroup (is_member op) (combined op) (pos 0) (inverse op)
fold-group Sum h = sum-group
fold-group Xor h = xor-group
fold-group (Modulo m) h = modulo-group m h

-- whatever number a fold takes, it is one that the fold works on
pub taken-member : (op : FoldOp) → IsFoldOp op → (n : ℤ) → IsTrue (is_member op (taken op n))
taken-member Sum h n = refl
taken-member Xor h n = fits-member (int_wrap w128 n) (SFits-int_wrap w128 n)
taken-member (Modulo m) h n = remainder-in m h n

pub lifts-member : (op : FoldOp) → IsFoldOp op → (lift : LiftOp) (v : Val) → IsTrue (is_member op (taken op (lifted lift v)))
lifts-member op h lift v = taken-member op h (lifted lift v)

pub ruleset fold_groups = (lifts-member)

-- the number of a fold over a set that grew, corrected for the values of the changed rows
pub fold-changed : (op : FoldOp) → IsFoldOp op → (lift : LiftOp) (s t : List Row) → IsAscending s → IsAscending t → IsAtMost s t
    → fold (corrected (combined op) (inverse op) (λ v. taken op (lifted lift v)) (visible s) (visible t)) (fold_rows op lift s) (row_values (changed s t)) ≡ fold_rows op lift t
fold-changed op h lift s t = fold-rows (fold-group op h) (λ v. taken op (lifted lift v)) s t (λ v k. lifts-member op h lift v) (λ v k. lifts-member op h lift v)
