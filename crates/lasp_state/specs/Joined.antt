-- What a join of states leaves, and which states a variable has.
use Rattle.std.specs.Prelude.{◌≡◌, ℤ}
use Rattle.model_states.specs.Content.{Content, join_contents, IsOrdered}
use Rattle.model_states.specs.Threshold.{Shape, fold}
use Rattle.lasp_state.specs.State.{content_of, shape_of, number_of, joined_number}
use Rattle.lasp_state.specs.declared.state.State.{State}

-- r is the first state with the second one joined in
pub record Joins (s t r : State) : Type 0 where
  pub shape : shape_of r ≡ shape_of s
  pub content : content_of r ≡ join_contents (content_of s) (content_of t)
  pub number : number_of r ≡ joined_number s t

-- an ordered state of the shape; a fold has the number that the fold's function gives of what it covers
pub record IsOf (value : Content → ℤ) (kind : Shape) (s : State) : Type 0 where
  pub shape : shape_of s ≡ kind
  pub ordered : IsOrdered (content_of s)
  pub number : kind ≡ fold → number_of s ≡ value (content_of s)
