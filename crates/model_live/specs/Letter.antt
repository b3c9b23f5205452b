-- Messages that one node of a script may send to another: a delivery of one is refused for want of memory alone.
use Rattle.std.specs.Prelude.{◌≡◌, ℕ, ◌<◌, ◌≤◌, IsTrue, List, length, map}
use Rattle.model_states.specs.Content.{IsContentAtMost}
use Rattle.model_states.specs.Counts.{count_at}
use Rattle.model_graph.specs.Graph.{Decl, Counter, is_source, kind_at}
use Rattle.model_graph.specs.Evaluation.{content_at}
use Rattle.model_graph.specs.Lawful.{sources_among}
use Rattle.model_graph.specs.Message.{Message, source_number, sent_at}
use Rattle.model_world.specs.Command.{Script}
use Rattle.model_live.specs.Together.{full, own_updates}

-- it has the graph's sources, and counts of the script's nodes; it holds no more than all updates together, and counts no more of a node's updates than the node makes
pub record IsLetter (g : List Decl) (script : Script) (m : Message) : Type 0 where
  pub sources : map (λ s. s.decl) m.sources ≡ sources_among g
  pub wide : length m.counts ≡ script.nodes
  pub below : (x : ℕ) → x < length g → IsTrue (is_source (kind_at g x)) → IsContentAtMost (sent_at m.sources (source_number g x)) (content_at (full g script) x)
  pub counted : (q : ℕ) → q < script.nodes → count_at m.counts q ≤ own_updates g script q

-- it tells node p of no update of its own that the node didn't make yet: it counts no more of them, and no counter in it more of what p counted
pub record IsNews (g : List Decl) (p made : ℕ) (counted : ℕ → ℕ) (m : Message) : Type 0 where
  pub updates : count_at m.counts p ≤ made
  pub totals : (x : ℕ) → x < length g → kind_at g x ≡ Counter → count_at (sent_at m.sources (source_number g x)).counts p ≤ counted x
