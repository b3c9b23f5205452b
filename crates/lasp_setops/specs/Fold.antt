-- What a fold asks of a set, and the lift of a value as a group takes it.
use Rattle.std.specs.Prelude.{◌≤◌, length, ℤ, List}
use Rattle.model_values.specs.Value.{Val}
use Rattle.model_values.specs.Token.{Tok}
use Rattle.model_values.specs.Row.{Row}
use Rattle.model_values.specs.Size.{IsOfWidth, IsSized}
use Rattle.model_functions.specs.Lift.{LiftOp, lifted}
use Rattle.model_sets.specs.Rows.{HasRow}
use Rattle.model_states.specs.Content.{row_limit}

-- each value is of the greatest width at most
abbrev pub HasWidth : List Row → Type 0
HasWidth s = (v : Val) (t : Tok) → HasRow s v t → IsOfWidth 16 v

-- a set that a variable may hold: not too many rows, and each value of the greatest width at most
pub record IsWithinLimits (s : List Row) : Type 0 where
  pub rows : length s ≤ row_limit
  pub values : HasWidth s

-- each value may be handed to a stored function
abbrev pub AreSized : List Row → Type 0
AreSized s = (v : Val) (t : Tok) → HasRow s v t → IsSized v

-- the lift of a value, as the group takes it
abbrev pub taken_lift : (ℤ → ℤ) → LiftOp → Val → ℤ
taken_lift taken op v = taken (lifted op v)
