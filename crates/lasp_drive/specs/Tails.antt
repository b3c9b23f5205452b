-- What is kept of a message for those who have its sender's message before: what came since.
use Rattle.std.specs.Prelude.{◌≡◌, ℕ, ◌<◌, ◌≤◌, IsTrue, List, length, slice_get, Option, Some}
use Rattle.std.specs.Arc.{arc_value}
use Rattle.model_states.specs.Content.{join_contents}
use Rattle.model_graph.specs.Graph.{Decl, is_source, kind_at}
use Rattle.model_graph.specs.Evaluation.{content_at}
use Rattle.model_graph.specs.Message.{Message, source_number, sent_at}
use Rattle.model_world.specs.World.{sent_number}
use Rattle.lasp_drive.specs.Since.{message_since}
use Rattle.lasp_drive.specs.Node.{NodeView, Posted}
use Rattle.lasp_drive.specs.declared.node.Tail.{Tail}

-- the rows are what message i has beyond the message before; joined behind that one, they are message i
pub record IsBehind (g : List Decl) (sent : List Message) (i : ℕ) (t : Tail) : Type 0 where
  pub place : t.before < length sent
  pub exact : arc_value t.rows ≡ message_since (sent_number sent t.before) (sent_number sent i)
  pub joins : (x : ℕ) → x < length g → IsTrue (is_source (kind_at g x)) → join_contents (sent_at (sent_number sent t.before).sources (source_number g x)) (sent_at (arc_value t.rows).sources (source_number g x)) ≡ sent_at (sent_number sent i).sources (source_number g x)

-- the message of this number has what its sender held
pub record IsPosted (g : List Decl) (sent : List Message) (s : Posted) : Type 0 where
  pub place : s.number < length sent
  pub few : length s.contents ≤ length g
  pub holds : (x : ℕ) → x < length g → IsTrue (is_source (kind_at g x)) → sent_at (sent_number sent s.number).sources (source_number g x) ≡ content_at s.contents x

-- what is kept of each message, if anything, stands behind a message before, and what each node tells that it last sent was sent
pub record AreTailed (g : List Decl) (nodes : List NodeView) (sent : List Message) (tails : List (Option Tail)) : Type 0 where
  pub many : length tails ≡ length sent
  pub each : (i : ℕ) (t : Tail) → slice_get tails i ≡ Some (Some t) → IsBehind g sent i t
  pub last : (p : ℕ) (n : NodeView) (s : Posted) → slice_get nodes p ≡ Some n → n.sent ≡ Some s → IsPosted g sent s
