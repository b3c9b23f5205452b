-- What isn't asked for again where it is known.
use Rattle.std.specs.Prelude.{◌≡◌, ℕ, ◌+◌, IsTrue, List}
use Rattle.model_states.specs.Counts.{count_at}
use Rattle.model_states.specs.Content.{Content, join_contents, is_content_at_most}
use Rattle.model_states.specs.Threshold.{Shape, Threshold, AtLeast, Above, Count, Added, Removed}
use Rattle.model_states.specs.Update.{Op, delta}

-- as the next update of a replica with these counts an operation brings nothing to a content
abbrev pub BringsNothing : Content → List ℕ → ℕ → Op → Type 0
BringsNothing s counts replica op = join_contents s (delta op s replica (count_at counts replica + 1)) ≡ s

-- a content has what a threshold asks for at least, where it asks so
abbrev pub HasLeast : Threshold → Content → Type 0
HasLeast (AtLeast shape t) s = IsTrue (is_content_at_most t s)
HasLeast (Above shape t) s = IsTrue (is_content_at_most t s)
HasLeast (Count k) s = Unit {0}
HasLeast (Added vs) s = Unit {0}
HasLeast (Removed vs) s = Unit {0}
