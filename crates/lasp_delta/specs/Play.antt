-- A whole script by deltas, and what is written of it.
use Rattle.std.specs.Prelude.{◌≡◌, ℕ, List, Result, Ok, Err}
use Rattle.std.specs.declared.vec.Vec.{Vec}
use Rattle.model_functions.specs.Library.{Library}
use Rattle.model_graph.specs.Graph.{Decl}
use Rattle.model_world.specs.Command.{Command, Script}
use Rattle.model_world.specs.World.{ended}
use Rattle.model_deltas.specs.Gossip.{Gossip, gossip, gossip_start, gossiped, gossip_output}
use Rattle.lasp_drive.specs.Driver.{Starts, Stands}
use Rattle.lasp_drive.specs.Node.{AreSettled}
use Rattle.lasp_drive.specs.Stretch.{MayGoOn}
use Rattle.lasp_drive.specs.Acts.{Halts}
use Rattle.lasp_drive.specs.declared.halt.Halt.{Halt}
use Rattle.lasp_delta.specs.Seen.{DeltaView, gossip_of, IsUnderWay}

-- before the first command
pub record Begins (g : List Decl) (nodes : ℕ) (d : DeltaView) : Type 0 where
  pub starts : Starts g nodes d.driver
  pub under_way : IsUnderWay 1 d
  pub gossip_is : gossip_of d ≡ gossip_start g nodes

-- commands are left, the first of which has number c: what is to come of them is what was to come of all
pub record GoesOn (lib : Library) (c : ℕ) (old now : DeltaView) (all left : List Command) : Type 0 where
  pub under_way : IsUnderWay c now
  pub may : MayGoOn lib c now.driver left
  pub run : gossip c (gossip_of now) left ≡ gossip 1 (gossip_of old) all

-- all commands were done, and every node is settled
pub record Played (old : DeltaView) (all : List Command) (new : DeltaView) : Type 0 where
  pub ready : (c : ℕ) × Stands c new.driver
  pub settled : AreSettled new.driver.nodes
  pub run : gossip 1 (gossip_of old) all ≡ Ok (gossip_of new)

-- the same, or the run stopped where the world stops, or memory was wanting
abbrev pub Plays : {A : Type 0} → List Decl → Script → DeltaView → Result A Halt → DeltaView → Type 0
Plays g script old (Ok done) new = Played old script.commands new
Plays g script old (Err why) new = Halts (ended g script) why

-- the bytes are what is written of the run's last world, or the run stopped, or memory was wanting
abbrev pub Reports : {A : Type 0} → List Decl → Script → Result (Vec ℕ A) Halt → Type 0
Reports g script (Ok bytes) = (s : Gossip) × (gossiped g script ≡ Ok s) × (bytes.items ≡ gossip_output s)
Reports g script (Err why) = Halts (ended g script) why
