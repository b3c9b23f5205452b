-- What a store sends.
use Rattle.std.specs.Prelude.{◌≡◌, ℕ, List, length, Option, Some, None}
use Rattle.model_graph.specs.Message.{Message}
use Rattle.model_world.specs.World.{message_at}
use Rattle.model_journal.specs.Entry.{Entry, Frame}
use Rattle.model_journal.specs.Journal.{graph}
use Rattle.model_core.specs.Peer.{peer_of}
use Rattle.lasp_core.specs.Since.{IsTailSince}
use Rattle.lasp_store.specs.declared.letter.Sent.{Sent}

-- the message of what came since so many entries, just where that is asked for
abbrev pub IsTailFrom : Frame → List Entry → Option ℕ → Option Message → Type 0
IsTailFrom X entries None None = Unit {0}
IsTailFrom X entries None (Some m) = ⊥
IsTailFrom X entries (Some n) None = ⊥
IsTailFrom X entries (Some n) (Some m) = IsTailSince X entries n m

-- what a replica sends behind these entries: its message, what came since so many of them, where that is asked for, and how many there are
pub record IsSent (X : Frame) (entries : List Entry) (since : Option ℕ) (s : Sent) : Type 0 where
  pub whole : s.whole ≡ message_at (graph X entries) (peer_of X entries)
  pub tail : IsTailFrom X entries since s.tail
  pub count : s.entries ≡ length entries
