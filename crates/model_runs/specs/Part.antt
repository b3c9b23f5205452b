-- Messages that stand for others: they bring as much to a replica that has the rest already.
use Rattle.std.specs.Prelude.{◌≡◌, ℕ, ◌<◌, ◌++◌, IsTrue, List, length, map}
use Rattle.model_states.specs.Content.{Content, join_contents}
use Rattle.model_graph.specs.Graph.{Decl, is_source, kind_at}
use Rattle.model_graph.specs.Evaluation.{content_at}
use Rattle.model_graph.specs.Lawful.{sources_among}
use Rattle.model_graph.specs.Message.{Message, Sent, source_number, sent_at}

-- the message's sources are the first of the graph's
abbrev pub IsBeginning : Message → List Decl → Type 0
IsBeginning m g = (more : List Decl) × (map (λ (s : Sent). s.decl) m.sources ++ more ≡ sources_among g)

-- a message brings as much to these contents as another one, and has the first sources of the graph where that has
pub record BringsAsMuch (g : List Decl) (contents : List Content) (m part : Message) : Type 0 where
  pub wide : length part.counts ≡ length m.counts
  pub begins : IsBeginning m g → IsBeginning part g
  pub brings : (x : ℕ) → x < length g → IsTrue (is_source (kind_at g x)) → join_contents (content_at contents x) (sent_at part.sources (source_number g x)) ≡ join_contents (content_at contents x) (sent_at m.sources (source_number g x))

-- what a message has behind these contents: its sources, joined behind them, give what is held now, and it counts and names what the whole message does
pub record IsTail (g : List Decl) (before now : List Content) (whole tail : Message) : Type 0 where
  pub counts : tail.counts ≡ whole.counts
  pub named : map (λ (s : Sent). s.decl) tail.sources ≡ map (λ (s : Sent). s.decl) whole.sources
  pub joins : (x : ℕ) → x < length g → IsTrue (is_source (kind_at g x)) → join_contents (content_at before x) (sent_at tail.sources (source_number g x)) ≡ content_at now x
