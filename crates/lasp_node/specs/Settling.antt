-- What settling a core does, turn by turn.
use Rattle.std.specs.Prelude.{◌≡◌, ℕ, ◌+◌, ◌<◌, ◌≤◌, not, List, [], ◌∷◌, ◌++◌, length, drop, filter, slice_index_or, Option, Some, Result, Ok, Err}
use Rattle.model_graph.specs.Lawful.{IsDerived}
use Rattle.model_journal.specs.Entry.{Act, Update, Deliver, Bind, Extend, Entry, Frame, entry}
use Rattle.model_journal.specs.Journal.{graph}
use Rattle.model_journal.specs.Clean.{IsClean}
use Rattle.model_core.specs.Peer.{peer_of}
use Rattle.model_core.specs.Core.{Core, is_met}
use Rattle.lasp_replica.specs.Jobs.{unread_rows}
use Rattle.lasp_drive.specs.declared.node.NodeStop.{NodeStop}
use Rattle.lasp_drive.specs.declared.node.NodeStop.TheVariants as node

-- no job is out
abbrev pub IsIdle : List ℕ → Type 0
IsIdle busy = (y : ℕ) → slice_index_or busy y 0 ≡ 0

-- every derived variable below a number has taken in its inputs as they are
abbrev pub AreCleanBelow : ℕ → Core → Type 0
AreCleanBelow many c = (y : ℕ) → y < many → IsDerived (graph c.frame c.entries) y → IsClean c.frame c.entries y

-- results that caller 0 handed in behind so many entries: each of a job that was taken at once before it, their variables ascending from one number on and below another, so that none is there twice
abbrev pub AreBinds : ℕ → ℕ → ℕ → List Entry → Type 0
AreBinds low high place [] = Unit {0}
AreBinds low high place (e ∷ more) = (y : ℕ) × (low ≤ y) × (y < high) × (e ≡ entry 0 (Bind y place)) × AreBinds (y + 1) high (place + 1) more

-- some entries, and then only such results
abbrev pub GoesOnByBinds : ℕ → ℕ → List Entry → List Entry → Type 0
GoesOnByBinds low high entries longer = (more : List Entry) × (longer ≡ entries ++ more) × AreBinds low high (length entries) more

-- the core after one bind at most of each variable from one number on and below another: of the same replica with the same graph, sources and counts; of the reads that waited those wait still that aren't met, no read was opened, and no job is out
pub record HasBoundIn (low high : ℕ) (old new : Core) : Type 0 where
  pub frame : new.frame ≡ old.frame
  pub graph_is : graph new.frame new.entries ≡ graph old.frame old.entries
  pub peer : peer_of new.frame new.entries ≡ peer_of old.frame old.entries
  pub binds : GoesOnByBinds low high old.entries new.entries
  pub parked : new.parked ≡ filter (λ r. not (is_met new.frame new.entries r)) old.parked
  pub opened : new.opened ≡ old.opened
  pub idle : IsIdle new.busy

-- the same of all variables
abbrev pub HasBound : Core → Core → Type 0
HasBound old new = HasBoundIn 0 (length (graph old.frame old.entries)) old new

-- the changed rows of the job whose result this is, where it was taken behind these entries
abbrev pub rows_behind : Frame → List Entry → Act → ℕ
rows_behind X entries (Update x op) = 0
rows_behind X entries (Deliver j m) = 0
rows_behind X entries (Bind y n) = unread_rows X entries y
rows_behind X entries (Extend d) = 0

-- the changed rows of all jobs whose results were handed in, each behind the entries before it
abbrev pub rows_bound : Frame → List Entry → List Entry → ℕ
rows_bound X entries [] = 0
rows_bound X entries (e ∷ more) = rows_behind X entries e.act + rows_bound X (entries ++ e ∷ []) more

-- the changed rows of the results that came between two cores
abbrev pub rows_since : Core → Core → ℕ
rows_since old new = rows_bound old.frame old.entries (drop (length old.entries) new.entries)

-- a variable that is told to be too large is the first that is
abbrev pub TellsFirst : {A : Type 0} → Option ℕ → Result A NodeStop → Type 0
TellsFirst large (Ok done) = Unit {0}
TellsFirst large (Err (node.TooLarge x)) = large ≡ Some x
TellsFirst large (Err node.Memory) = Unit {0}
