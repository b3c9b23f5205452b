-- Live rows of a value, and what buries them.
use Rattle.std.specs.Prelude.{◌≡◌, ℕ, ◌<◌, false, true, List, [], ◌∷◌, ◌++◌, slice_get, Some}
use Rattle.model_values.specs.Value.{Val}
use Rattle.model_values.specs.Token.{Tok}
use Rattle.model_values.specs.Row.{Row}
use Rattle.model_sets.specs.Rows.{mark, HasRow}
use Rattle.model_sets.specs.Equations.{changed}

-- the row at a place is live, and of the value
abbrev pub IsLiveRow : List Row → Val → ℕ → Type 0
IsLiveRow rows v i = (t : Tok) × (slice_get rows i ≡ Some ((v, t), false))

-- some rows are live rows of the value, each dead
pub record AreBuried (rows : List Row) (v : Val) (delta : List Row) : Type 0 where
  pub dead : (u : Val) (t : Tok) → HasRow delta u t → mark delta u t ≡ 2
  pub live : (u : Val) (t : Tok) → HasRow delta u t → (i : ℕ) × (u ≡ v) × (slice_get rows i ≡ Some ((v, t), false))

-- a live row of the value at a place that isn't among them
abbrev pub IsLeft : List Row → Val → List Row → ℕ → Type 0
IsLeft rows v delta i = (t : Tok) × (slice_get rows i ≡ Some ((v, t), false)) × (mark delta v t < 2)

-- the row at the place was put into a set, dead
pub record IsBuriedRow (rows : List Row) (v : Val) (place : ℕ) (before after : List Row) : Type 0 where
  pub token : Tok
  pub at : slice_get rows place ≡ Some ((v, token), false)
  pub made : after ≡ before ++ changed before (((v, token), true) ∷ [])
