-- What is asked of rows.
use Rattle.std.specs.Prelude.{◌&&◌, ◌||◌, not, Bool, true, false, List}
use Rattle.model_values.specs.Value.{Val}
use Rattle.model_values.specs.Size.{HasSmallInts}
use Rattle.model_values.specs.Token.{Tok}
use Rattle.model_values.specs.Row.{Row}
use Rattle.model_sets.specs.Rows.{is_of, HasRow, IsDeadIn}

-- Whether a row is of the value, and dead where that is asked for.
abbrev pub is_row_of : Val → Bool → Row → Bool
is_row_of v dead r = is_of v r && (r.1 || not dead)

-- The value has a row, and a dead one where that is asked for.
abbrev pub HasRowOf : List Row → Val → Bool → Type 0
HasRowOf s v false = (t : Tok) × HasRow s v t
HasRowOf s v true = (t : Tok) × IsDeadIn s v t

-- Each number in the values of the rows has at most 64 bits.
abbrev pub HaveSmallInts : List Row → Type 0
HaveSmallInts s = (v : Val) (t : Tok) → HasRow s v t → HasSmallInts v
