use Rattle.std.proofs.Common.{◌≡◌, ℕ, ◌<◌, List, take}
use Rattle.std.specs.Str.Parse.{AllDigits, digits_value}
use Rattle.lasp_spelling.proofs.number.value_of_digits.Given as goal

pub record Reads (bytes : List ℕ) (i n : ℕ) : Type 0 where
  pub digits : AllDigits 10 (take i bytes)
  pub value : n ≡ digits_value 10 (take i bytes)
  pub small : n < 1000000000000000000

abbrev pub invariant-loop-i : goal.invariant-loop-i
invariant-loop-i l = Reads l.bytes l.i l.n
