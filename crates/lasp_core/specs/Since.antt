-- States of what came to a core since its first entries, and messages of them.
use Rattle.std.specs.Prelude.{◌≡◌, ℕ, ◌<◌, List, length, take}
use Rattle.model_graph.specs.Graph.{kind_at}
use Rattle.model_graph.specs.Lawful.{IsDerived, shape_of}
use Rattle.model_graph.specs.Message.{Message, message_of, content_since}
use Rattle.model_world.specs.World.{message_at}
use Rattle.model_runs.specs.Part.{IsTail}
use Rattle.model_journal.specs.Entry.{Entry, Frame}
use Rattle.model_journal.specs.Journal.{graph, val, counts}
use Rattle.model_core.specs.Peer.{peer_of}
use Rattle.lasp_graph.specs.Evaluated.{number_by}
use Rattle.lasp_graph.specs.States.{Held, held_at, contents_of}

-- states of a core's variables: of each source that is a set the rows that changed since the first n entries, of others all, with the numbers of folds
pub record AreStatesSince (X : Frame) (entries : List Entry) (n : ℕ) (states : List Held) : Type 0 where
  pub long : length states ≡ length (graph X entries)
  pub contents : (x : ℕ) → x < length (graph X entries) → (held_at states x).content ≡ content_since (kind_at (graph X entries) x) (val X (take n entries) x) (val X entries x)
  pub shapes : (x : ℕ) → x < length (graph X entries) → (held_at states x).shape ≡ shape_of X.nodes (kind_at (graph X entries) x)
  pub numbers : (x : ℕ) → IsDerived (graph X entries) x → (held_at states x).number ≡ number_by (kind_at (graph X entries) x) (held_at states x).content

-- the message of such states, which is what the core's message has behind what its sources held after the first n entries
pub record IsTailSince (X : Frame) (entries : List Entry) (n : ℕ) (m : Message) : Type 0 where
  pub states : List Held
  pub since : AreStatesSince X entries n states
  pub message : m ≡ message_of (graph X entries) (contents_of states) (counts X entries)
  pub tail : IsTail (graph X entries) (peer_of X (take n entries)).contents (peer_of X entries).contents (message_at (graph X entries) (peer_of X entries)) m
