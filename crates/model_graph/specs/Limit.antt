-- Which variables have more rows or elements than the limit.
use Rattle.std.specs.Prelude.{ℕ, ◌≤◌, ◌<◌, List}
use Rattle.model_states.specs.Content.{Content, size_of, row_limit}
use Rattle.model_graph.specs.Evaluation.{content_at}

-- no variable does
abbrev pub AreWithinLimit : List Content → Type 0
AreWithinLimit contents = (x : ℕ) → size_of (content_at contents x) ≤ row_limit

-- the variable does, and none before it
pub record IsFirstLarge (contents : List Content) (x : ℕ) : Type 0 where
  pub large : row_limit < size_of (content_at contents x)
  pub before : (y : ℕ) → y < x → size_of (content_at contents y) ≤ row_limit
