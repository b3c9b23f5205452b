-- What holds at each place of a run by deltas.
use Rattle.std.specs.Prelude.{◌≡◌, ℕ, ◌<◌, length, Option, None, IfSome, slice_index_or}
use Rattle.model_states.specs.Counts.{AreCountsAtMost}
use Rattle.model_graph.specs.Message.{Message}
use Rattle.model_world.specs.Lawful.{Stage}
use Rattle.model_world.specs.World.{Run, peer_at, sent_number}
use Rattle.model_world.specs.Follow.{Followed}
use Rattle.model_world.proofs.PlayLaws.{IsAt}
use Rattle.model_wire.specs.Lawful.{IsMessage}
use Rattle.model_deltas.specs.Delta.{Delta, delta_of}
use Rattle.model_deltas.specs.Before.{IsBefore}
use Rattle.model_deltas.specs.Gossip.{Gossip, told_by, delta_number}

-- a message that was sent, or none
abbrev pub IsSentNumber : Run → Option ℕ → Type 0
IsSentNumber run number = IfSome number (λ i. i < length run.sent)

-- what a node told last counts no more than the node
pub record IsTold (run : Run) (p : ℕ) (number : Option ℕ) : Type 0 where
  pub there : IsSentNumber run number
  pub counted : AreCountsAtMost (told_by run number).counts (peer_at run.peers p).counts

-- a delta of a message: it goes on from an earlier one of its sender, or from nothing
pub record IsDeltaTo (run : Run) (m : Message) (d : Delta) : Type 0 where
  pub number : Option ℕ
  pub there : IsSentNumber run number
  pub lawful : IsMessage (told_by run number)
  pub whole : IsMessage m
  pub earlier : IsBefore (told_by run number) m
  pub delta : d ≡ delta_of (told_by run number) m

-- each node has told what it holds no less of, and each message has its delta
pub record Travels (s : Gossip) : Type 0 where
  pub nodes : length s.last ≡ length s.run.peers
  pub told : (p : ℕ) → p < length s.run.peers → IsTold s.run p (slice_index_or s.last p None)
  pub many : length s.deltas ≡ length s.run.sent
  pub deltas : (i : ℕ) → i < length s.run.sent → IsDeltaTo s.run (sent_number s.run.sent i) (delta_number s i)

-- a place of a lawful run, which is followed with what its updates brought
pub record IsGoing (nodes : ℕ) (stage : Stage) (s : Gossip) : Type 0 where
  pub followed : Followed
  pub run : followed.run ≡ s.run
  pub at : IsAt nodes stage followed
  pub travels : Travels s
