-- What the run of a lawful script keeps: its replicas, messages, marks and reads are within the ranges of the format, and as many as the commands before say.
use Rattle.std.specs.Prelude.{◌≡◌, ℕ, ◌<◌, List, length, slice_index_or, IsTrue}
use Rattle.model_states.specs.Threshold.{Count, suits}
use Rattle.model_graph.specs.Graph.{Decl, kind_at}
use Rattle.model_graph.specs.Lawful.{shape_of}
use Rattle.model_wire.specs.Lawful.{IsSource}
use Rattle.model_world.specs.Lawful.{Stage}
use Rattle.model_world.specs.World.{Run, Marked, Opened, peer_at, sent_number, mark_at}
use Rattle.model_runs.specs.Held.{AreBelow, IsHeld, IsSentTo}

-- a mark of variable x
pub record IsMarked (nodes : ℕ) (g : List Decl) (x : ℕ) (m : Marked) : Type 0 where
  pub declared : x < length g
  pub shape : m.shape ≡ shape_of nodes (kind_at g x)
  pub source : IsSource nodes (kind_at g x) m.content

-- a read of a variable that its threshold suits
pub record IsOpened (nodes : ℕ) (g : List Decl) (o : Opened) : Type 0 where
  pub node : o.node < nodes
  pub var : o.var < length g
  pub suits_it : IsTrue (suits o.threshold (shape_of nodes (kind_at g o.var)))

-- a read of nothing
abbrev pub no_read : Opened
no_read = record { node = 0; var = 0; threshold = Count 0 }

abbrev pub read_at : List Opened → ℕ → Opened
read_at reads k = slice_index_or reads k no_read

-- a run before command number c, the stage being what stands there by the commands alone
pub record IsSound (nodes c : ℕ) (s : Stage) (run : Run) : Type 0 where
  pub graph : run.graph ≡ s.graph
  pub many : length run.peers ≡ nodes
  pub held : (p : ℕ) → p < nodes → IsHeld nodes run.graph (peer_at run.peers p)
  pub below : (p : ℕ) → p < nodes → AreBelow c (peer_at run.peers p).counts
  pub sent_many : length run.sent ≡ s.sent
  pub sent : (i : ℕ) → i < length run.sent → IsSentTo nodes run.graph (sent_number run.sent i)
  pub sent_below : (i : ℕ) → i < length run.sent → AreBelow c (sent_number run.sent i).counts
  pub marks_many : length run.marks ≡ length s.marked
  pub marks : (m : ℕ) → m < length run.marks → IsMarked nodes run.graph (slice_index_or s.marked m 0) (mark_at run.marks m)
  pub reads : (k : ℕ) → k < length run.reads → IsOpened nodes run.graph (read_at run.reads k)
