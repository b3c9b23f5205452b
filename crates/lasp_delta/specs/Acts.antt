-- What the acts of a run by deltas do.
use Rattle.std.specs.Prelude.{◌≡◌, ℕ, ◌+◌, ◌≤◌, Bool, true, false, None, is_some, List, length, Result, Ok, Err}
use Rattle.model_world.specs.Command as plain
use Rattle.model_world.specs.Lawful.{MayBeDone}
use Rattle.model_world.specs.World.{Act, acts, each, peer_at, sent_number}
use Rattle.model_graph.specs.Message.{Message}
use Rattle.model_runs.specs.Part.{BringsAsMuch}
use Rattle.model_deltas.specs.Delta.{Delta, carried}
use Rattle.model_deltas.specs.Applied.{first_gap}
use Rattle.model_deltas.specs.Gossip.{gossip_each}
use Rattle.lasp_drive.specs.Driver.{DriverView, run_of, stage_of, Stands}
use Rattle.lasp_drive.specs.Acts.{Halts, all_staged}
use Rattle.lasp_drive.specs.declared.halt.Halt.{Halt}
use Rattle.lasp_delta.specs.Seen.{DeltaView, gossip_of, IsUnderWay}

-- ---- the driver alone

-- acts of command number c were done as the world does them
pub record Did (c : ℕ) (old : DriverView) (all : List Act) (new : DriverView) : Type 0 where
  pub ready : Stands c new
  pub size : length new.nodes ≡ length old.nodes
  pub stage : stage_of new ≡ all_staged (stage_of old) all
  pub run : each c (run_of old) all ≡ Ok (run_of new)

-- the same, or the run stopped where the world stops, or memory was wanting
abbrev pub DoesSeen : {A : Type 0} → ℕ → DriverView → List Act → Result A Halt → DriverView → Type 0
DoesSeen c old all (Ok done) new = Did c old all new
DoesSeen c old all (Err why) new = Halts (each c (run_of old) all) why

-- a message brings node p as much as message i
abbrev pub BringsTheSame : DriverView → ℕ → ℕ → Message → Type 0
BringsTheSame d p i m = BringsAsMuch d.graph (peer_at (run_of d).peers p).contents (sent_number d.sent i) m

-- a delta stands for message i at node p: it is among as many nodes, and where the node counts all that it goes on from, what it carries brings the node as much as the message
pub record StandsFor (d : DriverView) (p i : ℕ) (delta : Delta) : Type 0 where
  pub wide : length (peer_at (run_of d).peers p).counts ≡ length delta.from
  pub brings : first_gap 0 (peer_at (run_of d).peers p).counts delta.from ≡ None → BringsTheSame d p i (carried delta)

-- whether node p knows too little for a delta
abbrev pub knows_too_little : DriverView → ℕ → Delta → Bool
knows_too_little d p delta = is_some (first_gap 0 (peer_at (run_of d).peers p).counts delta.from)

-- ---- with what travels

-- acts of command number c were done as the world by deltas does them, and the run stands before command number next
pub record Went (c next : ℕ) (old : DeltaView) (all : List Act) (new : DeltaView) : Type 0 where
  pub under_way : IsUnderWay next new
  pub size : length new.driver.nodes ≡ length old.driver.nodes
  pub stage : stage_of new.driver ≡ all_staged (stage_of old.driver) all
  pub run : gossip_each c (gossip_of old) all ≡ Ok (gossip_of new)

-- the same, or the run stopped where the world stops, or memory was wanting
abbrev pub Goes : {A : Type 0} → ℕ → ℕ → DeltaView → List Act → Result A Halt → DeltaView → Type 0
Goes c next old all (Ok done) new = Went c next old all new
Goes c next old all (Err why) new = Halts (each c (run_of old.driver) all) why

-- the same of the acts of a command
abbrev pub GoesBy : {A : Type 0} → ℕ → DeltaView → plain.Command → Result A Halt → DeltaView → Type 0
GoesBy c old k result new = Goes c (c + 1) old (acts (run_of old.driver) k) result new

-- the run is before command number c, which may be done there
pub record MayGoBy (c : ℕ) (d : DeltaView) (k : plain.Command) : Type 0 where
  pub under_way : IsUnderWay c d
  pub few : c ≤ 100000
  pub lawful : MayBeDone (length d.driver.nodes) (stage_of d.driver) k

-- by the command nothing is sent and nothing taken
abbrev pub is_quiet : plain.Command → Bool
is_quiet (plain.Send p) = false
is_quiet (plain.Deliver p i) = false
is_quiet plain.Sync = false
is_quiet _ = true
