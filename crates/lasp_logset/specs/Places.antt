-- Chains of row numbers that lead to all rows of a value, and what a pass along them has.
use Rattle.std.specs.Prelude.{◌≡◌, ℕ, zero, suc, ◌<◌, ◌≤◌, Bool, false, List, [], ◌∷◌, ◌++◌, filter, length, slice_get, Option, Some, None}
use Rattle.model_values.specs.Value.{Val}
use Rattle.model_values.specs.Token.{Tok}
use Rattle.model_values.specs.Row.{Row}
use Rattle.model_sets.specs.Rows.{is_of}
use Rattle.model_sets.specs.Reads.{is_row_of}
use Rattle.lasp_logset.specs.Chains.{newest_of, hash_at, IsBehind}

-- the chains lead to each row among the first
pub record AreFound (rows : List Row) (newest : List (ℕ × ℕ)) (older : List ℕ) : Type 0 where
  pub covered : length older ≤ length rows
  pub begins : (h : ℕ) → IsBehind rows h (length older) (newest_of newest h)
  pub newest_row : (h i : ℕ) → i < length older → hash_at rows i ≡ Some h → i < newest_of newest h
  pub goes_on : (j b h : ℕ) → slice_get older j ≡ Some b → hash_at rows j ≡ Some h → IsBehind rows h j b
  pub older_row : (j b h i : ℕ) → slice_get older j ≡ Some b → hash_at rows j ≡ Some h → i < j → hash_at rows i ≡ Some h → i < b

-- the row at a place is of the value
abbrev pub IsRowOf : List Row → Val → ℕ → Type 0
IsRowOf rows v i = (t : Tok) × (d : Bool) × (slice_get rows i ≡ Some ((v, t), d))

-- whether there is a row of the value, dead where that is asked for
abbrev pub is_row_as : Val → Bool → Option Row → Bool
is_row_as v dead None = false
is_row_as v dead (Some r) = is_row_of v dead r

abbrev pub row_at : Option Row → List Row
row_at None = []
row_at (Some r) = r ∷ []

-- the rows of a value before a place, from the newest back
abbrev pub near : Val → List Row → ℕ → List Row
near v rows zero = []
near v rows (suc b) = filter (is_of v) (row_at (slice_get rows b)) ++ near v rows b

-- a pass stands at its end, or behind a row of the value
pub record IsNear (rows : List Row) (newest : List (ℕ × ℕ)) (older : List ℕ) (v : Val) (b : ℕ) : Type 0 where
  pub found : AreFound rows newest older
  pub row : (k : ℕ) → b ≡ suc k → IsRowOf rows v k
