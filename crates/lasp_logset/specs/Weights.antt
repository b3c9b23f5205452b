-- How many bytes rows take where each stands with its value, as messages have them.
use Rattle.std.specs.Prelude.{ℕ, ◌+◌, ◌-◌, ◌≤◌, ◌^◌, min, List, [], ◌∷◌, length}
use Rattle.model_values.specs.Value.{Val, int, text, pair}
use Rattle.model_values.specs.Token.{Tok, single, both}
use Rattle.model_values.specs.Row.{Row}

-- a tag, and then a number, a length with that many bytes, or two values
abbrev pub val_weight : Val → ℕ
val_weight (int n) = 9
val_weight (text t) = 3 + length t
val_weight (pair a b) = 1 + (val_weight a + val_weight b)

-- a replica and a number
abbrev pub tok_weight : Tok → ℕ
tok_weight (single q k) = 9
tok_weight (both t s) = tok_weight t + tok_weight s

-- the value with the number of its rows, the token, and whether it is dead
abbrev pub row_weight : Row → ℕ
row_weight r = val_weight r.0.0 + tok_weight r.0.1 + 5

abbrev pub rows_weight : List Row → ℕ
rows_weight [] = 0
rows_weight (r ∷ rows) = row_weight r + rows_weight rows

abbrev pub values_weight : List Val → ℕ
values_weight [] = 0
values_weight (v ∷ values) = val_weight v + values_weight values

-- a number of 64 bits that is at least another one, or the largest of them
abbrev pub IsBounded : ℕ → ℕ → Type 0
IsBounded n bound = min n (2 ^ 64 - 1) ≤ bound
