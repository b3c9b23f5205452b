-- What states tell of what came behind earlier contents.
use Rattle.std.specs.Prelude.{◌≡◌, ℕ, ◌<◌, IsFalse, List, length}
use Rattle.model_states.specs.Content.{Content}
use Rattle.model_graph.specs.Graph.{Decl, Kind, is_source, kind_at}
use Rattle.model_graph.specs.Evaluation.{content_at}
use Rattle.model_graph.specs.Message.{content_since}
use Rattle.lasp_graph.specs.States.{Held, held_at}

-- a state of what came behind a variable's earlier content, with the number of a variable that is derived
pub record IsSince (k : Kind) (before : Content) (state new : Held) : Type 0 where
  pub content : new.content ≡ content_since k before state.content
  pub shape : new.shape ≡ state.shape
  pub number : IsFalse (is_source k) → new.number ≡ state.number

-- the same of the first so many variables of a graph
pub record AreSince (g : List Decl) (before : List Content) (states : List Held) (many : ℕ) (new : List Held) : Type 0 where
  pub long : length new ≡ many
  pub each : (x : ℕ) → x < many → IsSince (kind_at g x) (content_at before x) (held_at states x) (held_at new x)
