-- A replica as its journal and what it keeps beside it, and what its calls leave.
use Rattle.std.specs.Prelude.{◌≡◌, ℕ, ◌+◌, ◌<◌, ◌≤◌, nat_lt, nat_le, Bool, false, not, IsTrue, if◌then◌else◌, List, [], ◌∷◌, ◌++◌, length, map, take, slice_index_or, Option, Some, None, is_some, Result, Ok, Err}
use Rattle.std.specs.List.{AllByRecursion}
use Rattle.std.specs.Option.{option_map}
use Rattle.std.specs.Arc.{arc_value}
use Rattle.model_states.specs.Counts.{count_at}
use Rattle.model_states.specs.Content.{Content, join_contents, size_of, row_limit}
use Rattle.model_states.specs.Threshold.{Shape, set, grow, counter, register, is_shape}
use Rattle.model_states.specs.Update as plain
use Rattle.model_values.specs.Size.{IsOfWidth}
use Rattle.model_values.specs.Row.{Row}
use Rattle.model_graph.specs.Message.{Message, brought, gained}
use Rattle.model_graph.specs.Graph.{Decl, Kind, is_source, kind_at}
use Rattle.model_graph.specs.Evaluation.{content_at, first_large}
use Rattle.model_graph.specs.Lawful.{shape_of}
use Rattle.model_wire.specs.Lawful.{IsSource}
use Rattle.model_runs.specs.Held.{IsHeld}
pub use Rattle.model_runs.specs.Part.{IsBeginning}
use Rattle.model_journal.specs.Entry as model
use Rattle.model_journal.specs.Entry.{Frame}
use Rattle.model_journal.specs.Legal.{IsLegal}
use Rattle.model_core.specs.Peer.{peer_of}
use Rattle.lasp_value.specs.Value.{val_of}
use Rattle.lasp_state.specs.declared.op.Op.{Op}
use Rattle.lasp_state.specs.declared.op.Op.TheVariants as op
use Rattle.lasp_state.specs.State as state
use Rattle.lasp_graph.specs.States.{held_of}
use Rattle.lasp_graph.specs.Evaluated.{second_of}
use Rattle.lasp_graph.specs.declared.inputs.Inputs.{Inputs}
use Rattle.lasp_wire.specs.Sent.{kind_of}
use Rattle.lasp_replica.specs.History.{History, Growth}
use Rattle.lasp_replica.specs.Kept as kept
use Rattle.lasp_replica.specs.Entries.{entry_of}
use Rattle.lasp_replica.specs.Parts.{Read, Base, Parts, IsKept, history_at}
use Rattle.lasp_replica.specs.declared.entry.Act.{Act}
use Rattle.lasp_replica.specs.declared.entry.Act.TheVariants as act
use Rattle.lasp_replica.specs.declared.entry.Entry.{Entry}
use Rattle.lasp_replica.specs.declared.process.Process.{Process}
use Rattle.lasp_replica.specs.declared.replica.Replica.{Replica}
use Rattle.lasp_replica.specs.declared.refused.UpdateRefused.{UpdateRefused}
use Rattle.lasp_replica.specs.declared.refused.UpdateRefused.TheVariants as update
use Rattle.lasp_replica.specs.declared.refused.DeliverRefused.{DeliverRefused}
use Rattle.lasp_replica.specs.declared.refused.DeliverRefused.TheVariants as deliver

-- ---- what a replica is seen as

abbrev pub read_of : Inputs → Read
read_of inputs = record { first = held_of (arc_value inputs.first); second = held_of (second_of inputs); two = is_some inputs.second }

-- a process that last read when so many entries stood, with its inputs where they are kept
abbrev pub base_on : ℕ → Option Inputs → Base
base_on n inputs = record { entries = n; inputs = option_map read_of inputs }

abbrev pub base_of : Process → Base
base_of p = base_on p.n p.base

-- how many jobs of a process are out; 0 of a source
abbrev pub jobs_of : Option Process → ℕ
jobs_of None = 0
jobs_of (Some p) = p.busy

abbrev pub frame_of : Replica → Frame
frame_of r = record { opening = take r.opening (arc_value r.graph); replica = r.me; nodes = length r.counts }

abbrev pub entries_of : Replica → List model.Entry
entries_of r = map entry_of r.journal.items

abbrev pub busy_of : Replica → List ℕ
busy_of r = map jobs_of r.processes.items

-- the history of a variable, without what it has made ready
abbrev pub told : kept.Kept → History
told h = h.history

abbrev pub parts_of : Replica → Parts
parts_of r = record { graph = arc_value r.graph; counts = r.counts; states = r.states; histories = map told r.histories.items; bases = map (option_map base_of) r.processes.items }

abbrev pub growths_at : Replica → ℕ → List Growth
growths_at r x = (history_at (parts_of r).histories x).growths

abbrev pub log_at : Replica → ℕ → List Row
log_at r x = (history_at (parts_of r).histories x).log

-- a history to which nothing happened
abbrev pub no_kept : kept.Kept
no_kept = kept.kept [] [] [] false 0

-- the history of a variable with what it has made ready
abbrev pub kept_at : List kept.Kept → ℕ → kept.Kept
kept_at histories x = slice_index_or histories x no_kept

-- the shape of the variables that an operation is for, among so many nodes
abbrev pub shape_for : ℕ → Op → Shape
shape_for nodes (op.Add v) = set
shape_for nodes (op.Remove v) = set
shape_for nodes (op.Insert v) = grow
shape_for nodes (op.Inc by) = counter nodes
shape_for nodes (op.Max n) = register
shape_for nodes (op.Join s) = state.shape_of (arc_value s)

-- the operation is one for variables of the kind
abbrev pub is_for : ℕ → Op → Kind → Bool
is_for nodes o k = is_shape (shape_for nodes o) (shape_of nodes k)

-- an update's operation is one for its variable, which is declared: a state that it joins in is of the variable's kind
pub record SuitsVar (nodes : ℕ) (g : List Decl) (x : ℕ) (o : Op) : Type 0 where
  pub declared : x < length g
  pub suits : IsTrue (is_for nodes o (kind_at g x))

abbrev pub SuitsAct : ℕ → List Decl → Act → Type 0
SuitsAct nodes g (act.Update x o) = SuitsVar nodes g x o
SuitsAct nodes g (act.Deliver number m) = Unit {0}
SuitsAct nodes g (act.Bind y n) = Unit {0}
SuitsAct nodes g (act.Extend d) = Unit {0}

abbrev pub IsSuited : ℕ → List Decl → Entry → Type 0
IsSuited nodes g e = SuitsAct nodes g e.what

-- what it keeps is what its journal says, which is legal, and its sources may stand in messages
pub record IsReplica (r : Replica) : Type 0 where
  pub kept : IsKept (frame_of r) (entries_of r) (parts_of r)
  pub legal : IsLegal (frame_of r) (entries_of r)
  pub held : IsHeld (length r.counts) (arc_value r.graph) (peer_of (frame_of r) (entries_of r))
  pub opened : r.opening ≤ length (arc_value r.graph)
  pub few : length r.counts ≤ 8
  pub suited : AllByRecursion (IsSuited (length r.counts) (arc_value r.graph)) r.journal.items

-- the replica after an entry
pub record Goes (e : model.Entry) (old new : Replica) : Type 0 where
  pub sound : IsReplica new
  pub frame : frame_of new ≡ frame_of old
  pub entries : entries_of new ≡ entries_of old ++ e ∷ []
  pub busy : busy_of new ≡ busy_of old

-- the replica after a declaration: one more variable, of which no job is out
pub record Grows (e : model.Entry) (old new : Replica) : Type 0 where
  pub sound : IsReplica new
  pub frame : frame_of new ≡ frame_of old
  pub entries : entries_of new ≡ entries_of old ++ e ∷ []
  pub busy : busy_of new ≡ busy_of old ++ 0 ∷ []

-- the replica as it was
pub record Stays (old new : Replica) : Type 0 where
  pub sound : IsReplica new
  pub frame : frame_of new ≡ frame_of old
  pub entries : entries_of new ≡ entries_of old
  pub busy : busy_of new ≡ busy_of old

-- ---- updates

-- what an operation brings is small enough for a source: a value has at most 8 numbers and texts and 256 bytes of text, a state is one that a source of its kind may hold
abbrev pub IsSmall : ℕ → Op → Type 0
IsSmall nodes (op.Add v) = IsOfWidth 1 (val_of v)
IsSmall nodes (op.Remove v) = IsOfWidth 1 (val_of v)
IsSmall nodes (op.Insert v) = IsOfWidth 1 (val_of v)
IsSmall nodes (op.Inc by) = Unit {0}
IsSmall nodes (op.Max n) = Unit {0}
IsSmall nodes (op.Join s) = IsTrue (is_source (kind_of (arc_value s))) → IsSource nodes (kind_of (arc_value s)) (state.content_of (arc_value s))

-- why replica p of so many refuses an update whatever its variable holds, if it does: the first of these
abbrev pub update_check : ℕ → ℕ → List Decl → List ℕ → ℕ → Op → Option UpdateRefused
update_check nodes p g counts x o =
    if not (nat_lt x (length g)) then Some update.UnknownVar else
    if not (is_source (kind_at g x)) then Some update.NotASource else
    if not (is_for nodes o (kind_at g x)) then Some update.WrongOp else
    if nat_le 100000 (count_at counts p) then Some update.UpdatesFull else
    None

-- a refusal, or else that for too many rows
abbrev pub or_too_many : Option UpdateRefused → Bool → Option UpdateRefused
or_too_many (Some why) large = Some why
or_too_many None large = if large then Some update.TooManyRows else None

-- why the update is refused, if it is
abbrev pub update_refusal : ℕ → ℕ → List Decl → List Content → List ℕ → ℕ → Op → Option UpdateRefused
update_refusal nodes p g contents counts x o =
    or_too_many (update_check nodes p g counts x o)
    (nat_lt row_limit (size_of (join_contents (content_at contents x) (plain.delta (state.op_of o) (content_at contents x) p (count_at counts p + 1)))))

-- what was refused, if it was
abbrev pub refused : {A E : Type 0} → Result A E → Option E
refused (Ok a) = None
refused (Err why) = Some why

-- an update was done where nothing refuses it, and else refused for this, unless memory was wanting
abbrev pub IsAnswered : {A : Type 0} → Option UpdateRefused → Result A UpdateRefused → Type 0
IsAnswered expected (Ok a) = expected ≡ None
IsAnswered expected (Err update.Memory) = Unit {0}
IsAnswered expected (Err why) = expected ≡ Some why

-- ---- deliveries

-- the message is one of a graph, among so many nodes
abbrev pub IsOfGraph : ℕ → List Decl → Message → Type 0
IsOfGraph nodes g m = (length m.counts ≡ nodes) × IsBeginning m g

-- a message was joined in where it is of the graph and leaves no variable too large; it is of another graph; this variable is the first that would be too large; or memory was wanting
abbrev pub IsDelivered : {A : Type 0} → ℕ → List Decl → List Content → Message → Result A DeliverRefused → Type 0
IsDelivered nodes g contents m (Ok a) = IsOfGraph nodes g m × (first_large 0 (gained (brought g m) 0 contents) ≡ None)
IsDelivered nodes g contents m (Err deliver.WrongGraph) = IsOfGraph nodes g m → ⊥
IsDelivered nodes g contents m (Err (deliver.TooManyRows x)) = IsOfGraph nodes g m × (first_large 0 (gained (brought g m) 0 contents) ≡ Some x)
IsDelivered nodes g contents m (Err deliver.Memory) = Unit {0}

-- ---- what a replica keeps before anything happened

-- processes as plain data
abbrev pub seen_process : Option Process → Option Base
seen_process process = option_map base_of process
