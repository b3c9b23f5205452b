-- Places of rows that have all values of the live rows among the first, and what they show.
use Rattle.std.specs.Prelude.{◌≡◌, ℕ, ◌<◌, ◌≤◌, List, [], ◌∷◌, ◌++◌, length, slice_get, Option, Some, None}
use Rattle.model_values.specs.Value.{Val}
use Rattle.model_values.specs.Row.{Row}
use Rattle.model_sets.specs.Values.{held, of_values, IsWithin, live_values}
use Rattle.lasp_logset.specs.Live.{IsLiveRow}

abbrev pub value_of : Option Row → List Val
value_of None = []
value_of (Some r) = r.0.0 ∷ []

-- the values of the rows at places, live or dead
abbrev pub values_at : List Row → List ℕ → List Val
values_at rows [] = []
values_at rows (place ∷ places) = value_of (slice_get rows place) ++ values_at rows places

-- each value of a live row among the first is that of a row at one of the places
pub record AreSeen (rows : List Row) (places : List ℕ) (upto : ℕ) : Type 0 where
  pub within : upto ≤ length rows
  pub seen : (v : Val) (i : ℕ) → i < upto → IsLiveRow rows v i → 0 < held (values_at rows places) v

-- the values of the rows at places, each once, where each is that of a live row
pub record IsStanding (rows : List Row) (places : List ℕ) (values : List Val) : Type 0 where
  pub is : values ≡ of_values (values_at rows places)
  pub live : IsWithin values (live_values rows)
