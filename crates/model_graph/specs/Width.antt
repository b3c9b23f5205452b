-- How wide the rows of a content are.
use Rattle.std.specs.Prelude.{ℕ}
use Rattle.model_values.specs.Value.{Val}
use Rattle.model_values.specs.Token.{Tok}
use Rattle.model_values.specs.Size.{IsOfWidth, IsTokenOfWidth}
use Rattle.model_sets.specs.Rows.{HasRow}
use Rattle.model_states.specs.Content.{Content}

-- the values and tokens of every row are of this width
pub record HasWidth (w : ℕ) (s : Content) : Type 0 where
  pub values : (v : Val) (t : Tok) → HasRow s.rows v t → IsOfWidth w v
  pub tokens : (v : Val) (t : Tok) → HasRow s.rows v t → IsTokenOfWidth w t
