-- How large the rows of a set may be.
use Rattle.std.specs.Prelude.{ℕ, List}
use Rattle.model_values.specs.Value.{Val}
use Rattle.model_values.specs.Token.{Tok}
use Rattle.model_values.specs.Row.{Row}
use Rattle.model_values.specs.Size.{IsOfWidth, IsTokenOfWidth}
use Rattle.model_sets.specs.Rows.{HasRow}

-- each value and each token is one that a variable of this width may hold
pub record IsSetOfWidth (w : ℕ) (s : List Row) : Type 0 where
  pub values : (v : Val) (t : Tok) → HasRow s v t → IsOfWidth w v
  pub tokens : (v : Val) (t : Tok) → HasRow s v t → IsTokenOfWidth w t
