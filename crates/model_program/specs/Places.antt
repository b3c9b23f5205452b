-- The places of a script's run, and what all nodes have at them.
use Rattle.std.specs.Prelude.{◌≡◌, ◌<◌, ◌++◌, ℕ, List}
use Rattle.model_graph.specs.Graph.{Decl, kind_at}
use Rattle.model_graph.specs.Evaluation.{content_at}
use Rattle.model_graph.specs.Message.{Message}
use Rattle.model_world.specs.Command.{Command, Script}
use Rattle.model_world.specs.Line.{shown_content}
use Rattle.model_world.specs.World.{peer_at, shown_at}
use Rattle.model_world.specs.Delta.{known_contents}
use Rattle.model_world.specs.Follow.{Followed}
use Rattle.model_world.specs.Holds.{IsPlaceOf}
use Rattle.model_deltas.specs.Before.{IsBefore}
use Rattle.model_deltas.specs.World.{IsMessageIn, DeltaStandsFor}

-- the place behind some first commands of the script
pub record IsPlaceIn (g : List Decl) (script : Script) (f : Followed) : Type 0 where
  pub done : List Command
  pub rest : List Command
  pub all : done ++ rest ≡ script.commands
  pub place : IsPlaceOf g script.nodes done f

-- at each place each node has what is known by its counts, and nothing else
abbrev pub AreKnown : List Decl → Script → Type 0
AreKnown g script = (f : Followed) → IsPlaceIn g script f → (p : ℕ) → p < script.nodes
    → (peer_at f.run.peers p).contents ≡ known_contents f.run.graph script.nodes f.deltas (peer_at f.run.peers p).counts

-- a node at a place and a node at another, or the same, have the same sources, show the same, and print the same values
pub record IsAlike (f last : Followed) (p q : ℕ) : Type 0 where
  pub sources : (peer_at f.run.peers p).contents ≡ (peer_at last.run.peers q).contents
  pub shown : shown_at f.run.graph (peer_at f.run.peers p) ≡ shown_at last.run.graph (peer_at last.run.peers q)
  pub printed : (x : ℕ) → shown_content (kind_at f.run.graph x) (content_at (shown_at f.run.graph (peer_at f.run.peers p)) x)
      ≡ shown_content (kind_at last.run.graph x) (content_at (shown_at last.run.graph (peer_at last.run.peers q)) x)

-- nodes at places with one graph are alike where their counts are equal
abbrev pub AreAlike : List Decl → Script → Type 0
AreAlike g script = (f last : Followed) → IsPlaceIn g script f → IsPlaceIn g script last → f.run.graph ≡ last.run.graph
    → (p q : ℕ) → p < script.nodes → q < script.nodes → (peer_at f.run.peers p).counts ≡ (peer_at last.run.peers q).counts → IsAlike f last p q

-- three messages that nodes told on the way to a place, of which a delta may lead from the first to the second: the first goes before the second
pub record AreToldThere (g : List Decl) (nodes : ℕ) (commands : List Command) (before after m : Message) : Type 0 where
  pub earlier : IsMessageIn g nodes commands before
  pub later : IsMessageIn g nodes commands after
  pub third : IsMessageIn g nodes commands m
  pub in_order : IsBefore before after

-- at each place a delta between messages that nodes told on the way does to a third of these what its later message does
abbrev pub DeltasStand : List Decl → Script → Type 0
DeltasStand g script = (f : Followed) (at : IsPlaceIn g script f) (before after m : Message) → AreToldThere g script.nodes at.done before after m → DeltaStandsFor before after m
