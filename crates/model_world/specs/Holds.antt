-- Who holds what is known of its counts: replicas, messages and marks.
use Rattle.std.specs.Prelude.{◌≡◌, ℕ, ◌<◌, ◌≤◌, IsTrue, List, length, Ok}
use Rattle.model_states.specs.Counts.{count_at}
use Rattle.model_states.specs.Content.{Content, join_contents}
use Rattle.model_graph.specs.Graph.{Decl, is_source, kind_at}
use Rattle.model_graph.specs.Evaluation.{content_at, least_of}
use Rattle.model_graph.specs.Message.{Message, source_number, sent_at}
use Rattle.model_world.specs.Command.{Command}
use Rattle.model_world.specs.Lawful.{opening_stage, AreLawful}
use Rattle.model_world.specs.Delta.{Delta, deltas_at, known}
use Rattle.model_world.specs.Follow.{Followed, begin, follow}

-- no count is past the updates that were made
abbrev pub AreMade : List (List Delta) → List ℕ → Type 0
AreMade all counts = (q : ℕ) → count_at counts q ≤ length (deltas_at all q)

-- a replica: one content for each variable and one count for each node, and each variable has what is known of it by the counts
pub record Holds (g : List Decl) (nodes : ℕ) (all : List (List Delta)) (contents : List Content) (counts : List ℕ) : Type 0 where
  pub long : length contents ≡ length g
  pub wide : length counts ≡ nodes
  pub made : AreMade all counts
  pub knows : (x : ℕ) → x < length g → content_at contents x ≡ known g nodes all counts x

-- a message: what it has of each source is known by its counts; a source that was declared later is least in it
pub record Carries (g : List Decl) (nodes : ℕ) (all : List (List Delta)) (m : Message) : Type 0 where
  pub narrow : length m.counts ≤ nodes
  pub few : length m.sources ≤ source_number g (length g)
  pub made : AreMade all m.counts
  pub knows : (x : ℕ) → x < length g → IsTrue (is_source (kind_at g x)) → join_contents (least_of nodes (kind_at g x)) (sent_at m.sources (source_number g x)) ≡ known g nodes all m.counts x

-- a mark of variable x: its content is known of x by some counts
pub record Keeps (g : List Decl) (nodes : ℕ) (all : List (List Delta)) (x : ℕ) (s : Content) : Type 0 where
  pub declared : x < length g
  pub counts : List ℕ
  pub made : AreMade all counts
  pub knows : s ≡ known g nodes all counts x

-- the place of a run after these commands, which are lawful
pub record IsPlaceOf (g : List Decl) (nodes : ℕ) (commands : List Command) (f : Followed) : Type 0 where
  pub lawful : AreLawful nodes (opening_stage g) commands
  pub reached : follow 1 (begin g nodes) commands ≡ Ok f
