-- The order of contents, variable by variable.
use Rattle.std.specs.Prelude.{ℕ, List}
use Rattle.model_states.specs.Content.{Content, IsContentAtMost}
use Rattle.model_graph.specs.Evaluation.{content_at}

-- each variable's content is at most the one it has in the second list
abbrev pub ContentsAtMost : List Content → List Content → Type 0
ContentsAtMost ss ts = (x : ℕ) → IsContentAtMost (content_at ss x) (content_at ts x)
