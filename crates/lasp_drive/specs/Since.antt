-- What came to a sender since an earlier message of it.
use Rattle.std.specs.Prelude.{◌≡◌, ℕ, ◌+◌, ◌<◌, IsTrue, List, [], ◌∷◌, length}
use Rattle.model_states.specs.Content.{Content}
use Rattle.model_graph.specs.Graph.{Decl, is_source, kind_at}
use Rattle.model_graph.specs.Evaluation.{content_at}
use Rattle.model_graph.specs.Message.{Message, Sent, source_number, sent_at, content_since}

-- what came to the sources from place i on; a source that the earlier message lacks is least in it
abbrev pub sources_since : List Sent → ℕ → List Sent → List Sent
sources_since before i [] = []
sources_since before i (t ∷ after) = record { decl = t.decl; content = content_since t.decl.kind (sent_at before i) t.content } ∷ sources_since before (i + 1) after

-- what a message has beyond an earlier one of its sender, as a message of its counts
abbrev pub message_since : Message → Message → Message
message_since before after = record { counts = after.counts; sources = sources_since before.sources 0 after.sources }

-- a message has of each source of a graph what came between two contents
abbrev pub HasSince : List Decl → List Content → List Content → Message → Type 0
HasSince g before now m = (x : ℕ) → x < length g → IsTrue (is_source (kind_at g x)) → sent_at m.sources (source_number g x) ≡ content_since (kind_at g x) (content_at before x) (content_at now x)
