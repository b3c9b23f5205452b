-- A core as its replica with the reads that wait, and what its calls leave.
use Rattle.std.specs.Prelude.{◌≡◌, ℕ, ◌+◌, ◌-◌, ◌==◌, ◌<◌, ◌≤◌, ◌⊎◌, not, if◌then◌else◌, IsTrue, IsFalse, List, [], ◌∷◌, ◌++◌, length, map, filter, replicate, slice_set, slice_index_or, is_some}
use Rattle.std.specs.List.{AllByRecursion}
use Rattle.model_states.specs.Threshold.{Threshold, suits}
use Rattle.model_graph.specs.Graph.{Decl, kind_at}
use Rattle.model_graph.specs.Lawful.{IsDerived}
use Rattle.model_graph.specs.Lawful as lawful
use Rattle.model_journal.specs.Entry.{Entry, Frame}
use Rattle.model_journal.specs.Journal.{graph, val}
use Rattle.model_core.specs.Core.{Read, Core, IsParked, is_met}
use Rattle.lasp_replica.specs.History.{version_before}
use Rattle.lasp_state.specs.declared.state.State.{State}
use Rattle.lasp_state.specs.State.{content_of, shape_of, number_of}
use Rattle.lasp_graph.specs.States.{Held, held_at}
use Rattle.lasp_graph.specs.Evaluated.{number_by}
use Rattle.lasp_replica.specs.declared.job.Job.{Job}
use Rattle.lasp_core.specs.Reads.{read_of}
use Rattle.lasp_core.specs.Lacking.{IsWaiting}
use Rattle.lasp_core.specs.Listed.{AreClean}
use Rattle.lasp_replica.specs.Jobs.{greatest_count, counted_up}
use Rattle.lasp_replica.specs.Replica.{frame_of, entries_of, busy_of, growths_at, IsReplica}
use Rattle.lasp_core.specs.declared.read.ReadNo.{ReadNo}
use Rattle.lasp_replica.specs.declared.replica.Replica.{Replica}

abbrev pub core_of : Replica → List ReadNo → ℕ → ℕ → Core
core_of r parked opened owed = record { frame = frame_of r; entries = entries_of r; parked = map read_of parked; busy = busy_of r; opened = opened; owed = owed }

-- ---- the order of reads

-- a number that was given out before another one: it is less, or both are the greatest, at which the count of opened reads stands still
abbrev pub IsBefore : ℕ → ℕ → Type 0
IsBefore m n = (m < n) ⊎ ((m ≡ greatest_count) × (n ≡ greatest_count))

-- reads in the order in which they were opened: each has its number from before those behind it
abbrev pub AreAscending : List Read → Type 0
AreAscending [] = Unit {0}
AreAscending (r ∷ reads) = AllByRecursion (λ s. IsBefore r.number s.number) reads × AreAscending reads

-- the same of a core that opened so many reads: each of these has its number from before the next one
pub record AreInOrder (opened : ℕ) (reads : List Read) : Type 0 where
  pub ascend : AreAscending reads
  pub before : AllByRecursion (λ r. IsBefore r.number opened) reads
  pub counted : opened ≤ greatest_count

-- the replica is what its journal says, no parked read's variable has come to its threshold, what the parked reads are known to lack is lacking, and they are in the order in which they were opened
pub record IsSound (r : Replica) (reads : List ReadNo) (opened : ℕ) : Type 0 where
  pub replica : IsReplica r
  pub parked : AllByRecursion (IsParked (frame_of r) (entries_of r)) (map read_of reads)
  pub waiting : AllByRecursion (IsWaiting (frame_of r) (entries_of r)) reads
  pub order : AreInOrder opened (map read_of reads)

-- a core to which nothing has happened
abbrev pub fresh_core : List Decl → ℕ → ℕ → Core
fresh_core g me nodes = record { frame = record { opening = g; replica = me; nodes = nodes }; entries = []; parked = []; busy = replicate (length g) 0; opened = 0; owed = 0 }

-- ---- reads

-- a read that may be asked: its variable is declared, and its threshold is one of the variable
pub record IsOpen (X : Frame) (entries : List Entry) (r : Read) : Type 0 where
  pub declared : r.var < length (graph X entries)
  pub suits_it : IsTrue (suits r.threshold (lawful.shape_of X.nodes (kind_at (graph X entries) r.var)))

-- a read that was parked before the replica's last entries, from number n on: it isn't met unless its variable grew at one of them
pub record IsWatched (r : Replica) (n : ℕ) (read : Read) : Type 0 where
  pub declared : read.var < length (graph (frame_of r) (entries_of r))
  pub suits_it : IsTrue (suits read.threshold (lawful.shape_of (frame_of r).nodes (kind_at (graph (frame_of r) (entries_of r)) read.var)))
  pub still : version_before (growths_at r read.var) n ≡ length (growths_at r read.var) → IsFalse (is_met (frame_of r) (entries_of r) read)

-- a read with the number of those that were opened before
abbrev pub opened_read : Core → ℕ → Threshold → Read
opened_read c x t = record { number = c.opened; var = x; threshold = t }

-- the core with a read opened, which is parked where it isn't met
abbrev pub opened : Read → Core → Core
opened r c = record {
  frame = c.frame;
  entries = c.entries;
  parked = (if is_met c.frame c.entries r then c.parked else c.parked ++ r ∷ []);
  busy = c.busy;
  opened = counted_up c.opened 1;
  owed = c.owed;
}

-- the core without the parked reads of a number
abbrev pub closed : ℕ → Core → Core
closed number c = record { frame = c.frame; entries = c.entries; parked = filter (λ r. not (r.number == number)) c.parked; busy = c.busy; opened = c.opened; owed = c.owed }

-- the core after a read that was opened and closed again
abbrev pub looked : Core → Core
looked c = record {
  frame = c.frame;
  entries = c.entries;
  parked = filter (λ r. not (r.number == c.opened)) c.parked;
  busy = c.busy;
  opened = counted_up c.opened 1;
  owed = c.owed;
}

-- ---- jobs

-- the changed rows of a job, in both inputs where it has two
abbrev pub rows_of : Job → ℕ
rows_of job = length job.first + (if is_some job.inputs.second then length job.second else 0)

-- the core with a job of variable y more, which has so many changed rows
abbrev pub taken : ℕ → ℕ → Core → Core
taken y rows c = record {
  frame = c.frame;
  entries = c.entries;
  parked = c.parked;
  busy = slice_set c.busy y (counted_up (slice_index_or c.busy y 0) 1);
  opened = c.opened;
  owed = counted_up c.owed rows;
}

-- the core with a job of variable y less
abbrev pub returned : ℕ → Core → Core
returned y c = record { frame = c.frame; entries = c.entries; parked = c.parked; busy = slice_set c.busy y (slice_index_or c.busy y 0 - 1); opened = c.opened; owed = c.owed }

-- the core that owes so many changed rows more
abbrev pub owing : ℕ → Core → Core
owing rows c = record { frame = c.frame; entries = c.entries; parked = c.parked; busy = c.busy; opened = c.opened; owed = counted_up c.owed rows }

-- every derived variable has taken in its inputs as they are
abbrev pub IsSettled : Core → Type 0
IsSettled c = AreClean c.frame c.entries

-- ---- declarations

-- the core with a declaration: one more variable, of which no job is out
abbrev pub declared : Entry → Core → Core
declared e c = record { frame = c.frame; entries = c.entries ++ e ∷ []; parked = c.parked; busy = c.busy ++ 0 ∷ []; opened = c.opened; owed = c.owed }

-- ---- states

-- the state of a variable: its content after the entries, of its kind, a fold with its number
pub record IsStateOf (c : Core) (x : ℕ) (s : State) : Type 0 where
  pub content : content_of s ≡ val c.frame c.entries x
  pub shape : shape_of s ≡ lawful.shape_of c.frame.nodes (kind_at (graph c.frame c.entries) x)
  pub number : IsDerived (graph c.frame c.entries) x → number_of s ≡ number_by (kind_at (graph c.frame c.entries) x) (content_of s)

-- a variable's state after the entries, as plain data
abbrev pub state_after : Frame → List Entry → ℕ → Held
state_after X entries x = record {
  shape = lawful.shape_of X.nodes (kind_at (graph X entries) x);
  content = val X entries x;
  number = number_by (kind_at (graph X entries) x) (val X entries x);
}

-- each state is one of its variable's kind, among so many nodes
abbrev pub AreOfKind : ℕ → List Decl → List Held → Type 0
AreOfKind nodes g states = (x : ℕ) → x < length g → (held_at states x).shape ≡ lawful.shape_of nodes (kind_at g x)
