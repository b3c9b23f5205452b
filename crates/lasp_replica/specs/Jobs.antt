-- Jobs of a replica: which variable's is next, what a job has, and when a result is a job's.
use Rattle.std.specs.Prelude.{◌≡◌, ◌≢◌, ℕ, ◌+◌, ◌-◌, ◌^◌, ◌<◌, ◌≤◌, min, ◌⊎◌, if◌then◌else◌, List, [], ◌∷◌, ◌++◌, None, length, take, slice_set, slice_index_or, is_some, IsSome, IsTrue}
use Rattle.std.specs.Arc.{arc_value}
use Rattle.model_values.specs.Row.{Row}
use Rattle.model_states.specs.Content.{Content, size_of, row_limit}
use Rattle.model_states.specs.Threshold.{set}
use Rattle.model_sets.specs.Equations.{changed}
use Rattle.model_graph.specs.Graph.{Kind, is_set, kind_at}
use Rattle.model_graph.specs.Evaluation.{content_at}
use Rattle.model_graph.specs.Lawful.{IsDerived}
use Rattle.model_journal.specs.Entry as model
use Rattle.model_journal.specs.Entry.{Frame}
use Rattle.model_journal.specs.Journal.{graph, vals, val}
use Rattle.model_journal.specs.Clean.{IsClean, applied, version, base}
use Rattle.lasp_state.specs.declared.state.State.{State}
use Rattle.lasp_state.specs.State as state
use Rattle.lasp_graph.specs.States.{held_of}
use Rattle.lasp_graph.specs.Evaluated.{second_of}
use Rattle.lasp_graph.specs.Delta.{IsStateOf}
use Rattle.lasp_graph.specs.declared.inputs.Inputs.{Inputs}
use Rattle.lasp_replica.specs.declared.job.Job.{Job}
use Rattle.lasp_replica.specs.Asked.{has_two}
use Rattle.lasp_replica.specs.Parts.{IsRead, first_input, second_input}
use Rattle.lasp_replica.specs.Replica.{read_of, frame_of, entries_of, busy_of, IsReplica}
use Rattle.lasp_replica.specs.declared.refused.NotYet.{NotYet}
use Rattle.lasp_replica.specs.declared.replica.Replica.{Replica}

-- the greatest number of 64 bits
abbrev pub greatest_count : ℕ
greatest_count = 2 ^ 64 - 1

-- a count that stands still at the greatest number of 64 bits
abbrev pub counted_up : ℕ → ℕ → ℕ
counted_up count more = min (count + more) greatest_count

-- ---- which variable is next

-- variable y is derived, and hasn't taken in its inputs as they are
pub record IsUnclean (X : Frame) (entries : List model.Entry) (y : ℕ) : Type 0 where
  pub derived : IsDerived (graph X entries) y
  pub lacks : IsClean X entries y → ⊥

-- the same, and no job of it is out
abbrev pub IsFree : Frame → List model.Entry → List ℕ → ℕ → Type 0
IsFree X entries busy y = IsUnclean X entries y × (slice_index_or busy y 0 ≡ 0)

-- the number is the first of which this holds
pub record IsFirst (P : ℕ → Type 0) (y : ℕ) : Type 0 where
  pub holds : P y
  pub least : (z : ℕ) → z < y → P z → ⊥

-- the variable whose job is next: the least that is neither clean nor busy; where every one that isn't clean is busy, the least that isn't clean
abbrev pub IsNext : Frame → List model.Entry → List ℕ → ℕ → Type 0
IsNext X entries busy y = IsFirst (IsFree X entries busy) y ⊎ (((z : ℕ) → IsFree X entries busy z → ⊥) × IsFirst (IsUnclean X entries) y)

abbrev pub IsUncleanAt : Replica → ℕ → Type 0
IsUncleanAt r y = IsUnclean (frame_of r) (entries_of r) y

abbrev pub IsFirstUnclean : Replica → ℕ → Type 0
IsFirstUnclean r y = IsFirst (IsUncleanAt r) y

abbrev pub IsFreeAt : Replica → ℕ → Type 0
IsFreeAt r y = IsFree (frame_of r) (entries_of r) (busy_of r) y

abbrev pub IsFirstFree : Replica → ℕ → Type 0
IsFirstFree r y = IsFirst (IsFreeAt r) y

abbrev pub IsNextVar : Replica → ℕ → Type 0
IsNextVar r y = IsNext (frame_of r) (entries_of r) (busy_of r) y

-- what variable y, which isn't clean, lacks: the first of its inputs whose version isn't the one that it applied
pub record Lacks (X : Frame) (entries : List model.Entry) (y : ℕ) (why : NotYet) : Type 0 where
  pub var : why.var ≡ y
  pub input : (why.input ≡ first_input (kind_at (graph X entries) y)) ⊎ ((why.input ≡ second_input (kind_at (graph X entries) y)) × (applied X entries y (first_input (kind_at (graph X entries) y)) ≡ version X entries (first_input (kind_at (graph X entries) y))))
  pub applied_is : why.applied ≡ applied X entries y why.input
  pub present_is : why.present ≡ version X entries why.input
  pub differs : why.applied ≢ why.present

abbrev pub IsLacking : Replica → ℕ → NotYet → Type 0
IsLacking r y why = Lacks (frame_of r) (entries_of r) y why

-- ---- what a job has

-- the inputs of a process of this kind, as the contents have them
pub record AreInputsOf (k : Kind) (contents : List Content) (inputs : Inputs) : Type 0 where
  pub two : is_some inputs.second ≡ has_two k
  pub first : state.content_of (arc_value inputs.first) ≡ content_at contents (first_input k)
  pub second : state.content_of (second_of inputs) ≡ content_at contents (second_input k)

-- variable x is declared, and a set
abbrev pub IsSetVar : Replica → ℕ → Type 0
IsSetVar r x = (x < length (arc_value r.graph)) × IsTrue (is_set (kind_at (arc_value r.graph) x))

-- the state is that of set x as it was after the first n entries
pub record IsSetAt (r : Replica) (n x : ℕ) (s : State) : Type 0 where
  pub shape : state.shape_of s ≡ set
  pub content : state.content_of s ≡ content_at (vals (frame_of r) (take n (entries_of r))) x

-- the inputs of variable y as they were after the first n entries
abbrev pub IsReadAt : Replica → ℕ → ℕ → Inputs → Type 0
IsReadAt r y n inputs = IsRead (kind_at (arc_value r.graph) y) (vals (frame_of r) (take n (entries_of r))) (read_of inputs)

-- the rows by which variable x changed since variable y last read its inputs
abbrev pub unread : Frame → List model.Entry → ℕ → ℕ → List Row
unread X entries y x = changed (val X (take (base X entries y) entries) x).rows (val X entries x).rows

-- how many rows changed in the inputs of variable y since it last read them, in both where it has two
abbrev pub unread_rows : Frame → List model.Entry → ℕ → ℕ
unread_rows X entries y =
    length (unread X entries y (first_input (kind_at (graph X entries) y)))
    + (if has_two (kind_at (graph X entries) y) then length (unread X entries y (second_input (kind_at (graph X entries) y))) else 0)

-- the same states
pub record AreShared (inputs copy : Inputs) : Type 0 where
  pub first : held_of (arc_value copy.first) ≡ held_of (arc_value inputs.first)
  pub second : held_of (second_of copy) ≡ held_of (second_of inputs)
  pub two : is_some copy.second ≡ is_some inputs.second

-- the job began with the graph and with its variable's state as they were after its first n entries
pub record IsOwn (X : Frame) (entries : List model.Entry) (job : Job) : Type 0 where
  pub graph_is : arc_value job.graph ≡ graph X (take job.n entries)
  pub before_is : state.content_of (arc_value job.before) ≡ val X (take job.n entries) job.var

-- the job is of a variable that was derived after its first n entries, with its inputs as they were there; where it tells the rows that it gained, it began with what stood there
pub record IsJobOf (X : Frame) (entries : List model.Entry) (job : Job) : Type 0 where
  pub within : job.n ≤ length entries
  pub derived : IsDerived (graph X (take job.n entries)) job.var
  pub inputs : AreInputsOf (kind_at (graph X entries) job.var) (vals X (take job.n entries)) job.inputs
  pub gained : IsSome job.gain → IsOwn X entries job

-- the job is one of the variable as it is, and isn't evaluated yet; its base is the variable's inputs as it last read them, and its rows are those that changed between the two
pub record IsJobNow (X : Frame) (entries : List model.Entry) (y : ℕ) (job : Job) : Type 0 where
  pub var : job.var ≡ y
  pub now : job.n ≡ length entries
  pub is : IsJobOf X entries job
  pub own : IsOwn X entries job
  pub fresh : job.gain ≡ None
  pub earlier : AreInputsOf (kind_at (graph X entries) y) (vals X (take (base X entries y) entries)) job.base
  pub first : job.first ≡ changed (state.content_of (arc_value job.base.first)).rows (state.content_of (arc_value job.inputs.first)).rows
  pub second : job.second ≡ changed (state.content_of (second_of job.base)).rows (state.content_of (second_of job.inputs)).rows

abbrev pub IsTaken : Replica → ℕ → Job → Type 0
IsTaken r y job = IsJobNow (frame_of r) (entries_of r) y job

-- the state is what the variable's process gives on the job's inputs, and isn't too large
pub record IsResultOf (X : Frame) (entries : List model.Entry) (job : Job) (s : State) : Type 0 where
  pub state_is : IsStateOf (kind_at (graph X entries) job.var) (state.content_of (arc_value job.inputs.first)) (state.content_of (second_of job.inputs)) s
  pub small : size_of (state.content_of s) ≤ row_limit

-- ---- what a replica is after a job was handed out, or came back

-- variable y is busy once more, and all else is as before
pub record HasStarted (y : ℕ) (old new : Replica) : Type 0 where
  pub sound : IsReplica new
  pub frame : frame_of new ≡ frame_of old
  pub entries : entries_of new ≡ entries_of old
  pub busy : busy_of new ≡ slice_set (busy_of old) y (counted_up (slice_index_or (busy_of old) y 0) 1)

-- variable y is busy once less, and all else is as before
pub record HasStopped (y : ℕ) (old new : Replica) : Type 0 where
  pub sound : IsReplica new
  pub frame : frame_of new ≡ frame_of old
  pub entries : entries_of new ≡ entries_of old
  pub busy : busy_of new ≡ slice_set (busy_of old) y (slice_index_or (busy_of old) y 0 - 1)

-- the replica took in the result of a job of variable y
pub record HasBound (by y n : ℕ) (old new : Replica) : Type 0 where
  pub sound : IsReplica new
  pub frame : frame_of new ≡ frame_of old
  pub entries : entries_of new ≡ entries_of old ++ record { by = by; act = model.Bind y n } ∷ []
  pub busy : busy_of new ≡ slice_set (busy_of old) y (slice_index_or (busy_of old) y 0 - 1)
