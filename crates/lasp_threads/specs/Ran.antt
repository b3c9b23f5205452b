-- What a run leaves at its nodes, whatever engine keeps their states.
use Rattle.std.specs.Prelude.{◌≡◌, ℕ, ◌<◌, List, ◌++◌, Ok}
use Rattle.model_graph.specs.Graph.{Decl}
use Rattle.model_journal.specs.Entry.{Entry}
use Rattle.model_runs.specs.Calls.{calls}
use Rattle.model_world.specs.Command.{Script}
use Rattle.model_world.specs.World.{Run, start, ended}
use Rattle.lasp_drive.specs.Calls.{calls_at}
use Rattle.lasp_drive.specs.Node.{NodeView, AreSettled}
use Rattle.lasp_drive.specs.Nodes.{peers_of}

-- the run came to its end: each node has got what the script makes at it, once and in order, has the sources and counts of the run's last world, and is settled
pub record HaveEnded (g : List Decl) (script : Script) (nodes : List NodeView) : Type 0 where
  pub calls : (p : ℕ) → p < script.nodes → calls_at nodes p ≡ calls 1 (start g script.nodes) p script.commands
  pub peers : (run : Run) → ended g script ≡ Ok run → peers_of nodes ≡ run.peers
  pub settled : AreSettled nodes

-- the run stopped: each node has got the first of what the script makes at it
abbrev pub HaveBegun : List Decl → Script → List NodeView → Type 0
HaveBegun g script nodes = (p : ℕ) → p < script.nodes → (rest : List Entry) × (calls_at nodes p ++ rest ≡ calls 1 (start g script.nodes) p script.commands)
