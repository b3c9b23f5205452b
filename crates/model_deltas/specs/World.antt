-- The messages of a world, and what it is that a delta between two of them stands for the later one.
use Rattle.std.specs.Prelude.{◌≡◌, ℕ, ◌<◌, ◌++◌, ◌⊎◌, List, []}
use Rattle.model_states.specs.Counts.{zeros}
use Rattle.model_graph.specs.Graph.{Decl}
use Rattle.model_graph.specs.Message.{Message}
use Rattle.model_world.specs.Command.{Command}
use Rattle.model_world.specs.World.{peer_at, message_at}
use Rattle.model_world.specs.Follow.{Followed}
use Rattle.model_world.specs.Holds.{IsPlaceOf}
use Rattle.model_deltas.specs.Delta.{delta_of}
use Rattle.model_deltas.specs.Applied.{first_gap, joined, limited, unless, applied}

-- before it sent anything a node told of no update and of no source
abbrev pub nothing_told : ℕ → Message
nothing_told nodes = record { counts = zeros nodes; sources = [] }

-- what node p tells at a place of a run, or would tell if it sent there
abbrev pub told_at : Followed → ℕ → Message
told_at f p = message_at f.run.graph (peer_at f.run.peers p)

-- what one of the nodes tells at a place on the way through these commands
pub record IsToldAmong (g : List Decl) (nodes : ℕ) (commands : List Command) (m : Message) : Type 0 where
  pub done : List Command
  pub rest : List Command
  pub all : done ++ rest ≡ commands
  pub at : Followed
  pub place : IsPlaceOf g nodes done at
  pub node : ℕ
  pub member : node < nodes
  pub is : m ≡ told_at at node

-- a message of the world behind these commands: what was told on the way, whether it was sent or not, or what a node told before all
abbrev pub IsMessageIn : List Decl → ℕ → List Command → Message → Type 0
IsMessageIn g nodes commands m = (m ≡ nothing_told nodes) ⊎ IsToldAmong g nodes commands m

-- three messages of one world, which is that of lawful commands that were done
pub record AreOfOneWorld (before after m : Message) : Type 0 where
  pub graph : List Decl
  pub nodes : ℕ
  pub commands : List Command
  pub at : Followed
  pub place : IsPlaceOf graph nodes commands at
  pub earlier : IsMessageIn graph nodes commands before
  pub later : IsMessageIn graph nodes commands after
  pub third : IsMessageIn graph nodes commands m

-- the delta from one message to a later one does to a third what the later one does: it makes of it what both have together, unless the third counts fewer updates of some replica than the earlier one, or a source of both is too large
abbrev pub DeltaStandsFor : Message → Message → Message → Type 0
DeltaStandsFor before after m = applied m (delta_of before after) ≡ unless (first_gap 0 m.counts before.counts) (limited (joined m after))
