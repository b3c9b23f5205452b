-- What the core of a replica holds: its journal, the reads that wait, how many jobs of each variable are out, how many reads were opened, and how many changed rows its jobs had.
use Rattle.std.specs.Prelude.{ℕ, ◌<◌, ◌≤◌, Bool, not, IsTrue, IsFalse, List, [], ◌∷◌, ◌++◌, length, filter}
use Rattle.std.specs.List.{AllByRecursion}
use Rattle.model_states.specs.Threshold.{Threshold, suits, meets}
use Rattle.model_graph.specs.Graph.{kind_at}
use Rattle.model_graph.specs.Lawful.{shape_of}
use Rattle.model_runs.specs.Held.{IsHeld}
use Rattle.model_journal.specs.Entry.{Entry, Frame}
use Rattle.model_journal.specs.Journal.{graph, val}
use Rattle.model_journal.specs.Legal.{IsLegal}
use Rattle.model_core.specs.Peer.{peer_of}

-- a read that waits: its number, its variable, and the threshold that it waits for
pub record Read : Type 0 where
  pub number : ℕ
  pub var : ℕ
  pub threshold : Threshold

-- a core: what no entry changes, the entries so far, the reads that wait, how many jobs of each variable are out, how many reads were opened, and how many changed rows the jobs had that were handed out
pub record Core : Type 0 where
  pub frame : Frame
  pub entries : List Entry
  pub parked : List Read
  pub busy : List ℕ
  pub opened : ℕ
  pub owed : ℕ

-- the variable is at the read's threshold after the entries
abbrev pub is_met : Frame → List Entry → Read → Bool
is_met X entries r = meets r.threshold (val X entries r.var)

-- the core with one more entry: the reads that came to be met no longer wait
abbrev pub entered : Entry → Core → Core
entered e c = record {
  frame = c.frame;
  entries = c.entries ++ e ∷ [];
  parked = filter (λ r. not (is_met c.frame (c.entries ++ e ∷ []) r)) c.parked;
  busy = c.busy;
  opened = c.opened;
  owed = c.owed;
}

-- the reads that the entry makes met, in their order
abbrev pub released : Entry → Core → List Read
released e c = filter (is_met c.frame (c.entries ++ e ∷ [])) c.parked

-- a read that waits: its variable is declared, its threshold suits the variable, and the variable is not at it
pub record IsParked (X : Frame) (entries : List Entry) (r : Read) : Type 0 where
  pub declared : r.var < length (graph X entries)
  pub suits_it : IsTrue (suits r.threshold (shape_of X.nodes (kind_at (graph X entries) r.var)))
  pub unmet : IsFalse (is_met X entries r)

-- a core that a replica may have: its journal is legal, its sources are within the message format, and each read that waits has to
pub record IsCore (c : Core) : Type 0 where
  pub legal : IsLegal c.frame c.entries
  pub held : IsHeld c.frame.nodes (graph c.frame c.entries) (peer_of c.frame c.entries)
  pub few : c.frame.nodes ≤ 8
  pub parked : AllByRecursion (IsParked c.frame c.entries) c.parked
