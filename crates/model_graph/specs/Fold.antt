-- The number of a fold: the lifts of the visible values, each value once, combined from 0 on.
use Rattle.std.specs.Prelude.{ℕ, ◌^◌, nat_lt, ℤ, pos, negsuc, ◌+ℤ◌, neg_ℤ, Bool, true, false, List}
use Rattle.std.specs.Int.{int_bit_xor, int_rem_euclid, int_wrap}
use mir.Syntax.{w128}
use Rattle.model_values.specs.Row.{Row}
use Rattle.model_functions.specs.Lift.{LiftOp, lifted}
use Rattle.model_sets.specs.Folds.{fold_of}
use Rattle.model_values.specs.Value.{Val}
use Rattle.model_sets.specs.Values.{visible}
use Rattle.model_graph.specs.Graph.{FoldOp, Sum, Xor, Modulo}

-- the number as the fold takes it: by a xor what is left of it in 128 bits, which is the number itself where it fits; by a modulo its remainder, which is not negative
abbrev pub taken : FoldOp → ℤ → ℤ
taken Sum n = n
taken Xor n = int_wrap w128 n
taken (Modulo m) n = int_rem_euclid n (pos m)

abbrev pub combined : FoldOp → ℤ → ℤ → ℤ
combined Sum a b = a +ℤ b
combined Xor a b = int_bit_xor w128 a b
combined (Modulo m) a b = int_rem_euclid (a +ℤ b) (pos m)

-- a number of 128 bits with a sign
abbrev pub is_of_128_bits : ℤ → Bool
is_of_128_bits (pos n) = nat_lt n (2 ^ 127)
is_of_128_bits (negsuc n) = nat_lt n (2 ^ 127)

-- a remainder by m
abbrev pub is_remainder : ℕ → ℤ → Bool
is_remainder m (pos n) = nat_lt n m
is_remainder m (negsuc n) = false

-- the numbers that the fold works on
abbrev pub is_member : FoldOp → ℤ → Bool
is_member Sum n = true
is_member Xor n = is_of_128_bits n
is_member (Modulo m) n = is_remainder m n

-- what undoes a number
abbrev pub inverse : FoldOp → ℤ → ℤ
inverse Sum a = neg_ℤ a
inverse Xor a = a
inverse (Modulo m) a = int_rem_euclid (neg_ℤ a) (pos m)

-- the fold over a list of values
abbrev pub fold_values : FoldOp → LiftOp → List Val → ℤ
fold_values op lift values = fold_of (combined op) (pos 0) (λ v. taken op (lifted lift v)) values

-- the fold over a set with tokens
abbrev pub fold_rows : FoldOp → LiftOp → List Row → ℤ
fold_rows op lift rows = fold_values op lift (visible rows)
