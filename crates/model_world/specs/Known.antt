-- Replicas and messages of which everything is known by some deltas, whatever these brought, as long as it joined in as the updates did.
use Rattle.std.specs.Prelude.{◌≡◌, ℕ, ◌<◌, IsTrue, List, [], ◌∷◌, length}
use Rattle.model_states.specs.Counts.{count_at}
use Rattle.model_graph.specs.Graph.{Decl, is_source, kind_at}
use Rattle.model_graph.specs.Message.{Message}
use Rattle.model_world.specs.World.{Peer, peer_at, sent_number}
use Rattle.model_world.specs.Delta.{Delta, deltas_at}
use Rattle.model_world.specs.Holds.{Holds, Carries}

-- each delta of a replica
abbrev pub EachOf : (Delta → Type 0) → List Delta → Type 0
EachOf P [] = Unit {0}
EachOf P (d ∷ deltas) = P d × EachOf P deltas

-- each delta of all replicas
abbrev pub Each : (Delta → Type 0) → List (List Delta) → Type 0
Each P [] = Unit {0}
Each P (deltas ∷ all) = EachOf P deltas × Each P all

-- a delta is of a declared source
abbrev pub IsOfSource : List Decl → Delta → Type 0
IsOfSource g d = (d.var < length g) × IsTrue (is_source (kind_at g d.var))

-- so many replicas and what was sent: there are as many deltas of a replica as it counts of its own, and replicas and messages have what is known of their counts
pub record IsKnown (nodes : ℕ) (g : List Decl) (peers : List Peer) (sent : List Message) (all : List (List Delta)) : Type 0 where
  pub many : length peers ≡ nodes
  pub logs : length all ≡ nodes
  pub sources : Each (IsOfSource g) all
  pub holds : (p : ℕ) → p < nodes → Holds g nodes all (peer_at peers p).contents (peer_at peers p).counts
  pub own : (p : ℕ) → p < nodes → count_at (peer_at peers p).counts p ≡ length (deltas_at all p)
  pub carries : (i : ℕ) → Carries g nodes all (sent_number sent i)
