-- What changed in the inputs of a derived variable, and what it is on them.
use Rattle.std.specs.Prelude.{◌≡◌, ℕ, ◌+◌, ◌≤◌, ◌<◌, ◌↔◌, Bool, IsTrue, IsFalse, if◌then◌else◌, List, length, map, slice_set, Option, Some, None, is_some, vec_len, vec_capacity}
use Rattle.std.specs.Arc.{arc_value}
use Rattle.model_values.specs.Row.{Row}
use Rattle.model_sets.specs.Rows.{join}
use Rattle.model_sets.specs.Equations.{changed}
use Rattle.model_states.specs.Content.{of_set, size_of, row_limit, IsContentAtMost}
use Rattle.model_graph.specs.Graph.{kind_at}
use Rattle.model_graph.specs.Evaluation.{equation}
use Rattle.model_journal.specs.Entry.{Entry, Frame}
use Rattle.model_journal.specs.Journal.{graph}
use Rattle.lasp_graph.specs.States.{Held, held_of, held_at, contents_of}
use Rattle.lasp_graph.specs.Evaluated.{number_by, second_of}
use Rattle.lasp_graph.specs.declared.inputs.Inputs.{Inputs}
use Rattle.lasp_replica.specs.Asked.{has_two}
use Rattle.lasp_replica.specs.Parts.{first_input, second_input, news_of, AreRowsOf}
use Rattle.lasp_replica.specs.Jobs.{unread}
use Rattle.lasp_replica.specs.Replica.{told, kept_at}
use Rattle.lasp_replica.specs.declared.unread.Unread.{Unread}
use Rattle.lasp_replica.specs.declared.replica.Replica.{Replica}

-- the rows of the second input; where there is none, those of the first once more
abbrev pub second_or_first : List Row → Option (List Row) → List Row
second_or_first first None = first
second_or_first first (Some second) = second

abbrev pub second_rows : Unread → List Row
second_rows u = second_or_first u.first u.second

-- how many rows changed, in both inputs where there are two
abbrev pub rows_in : Unread → ℕ
rows_in u = length u.first + (if is_some u.second then length (second_rows u) else 0)

-- these are the rows that changed in the inputs of variable y since it last read them
pub record IsUnread (X : Frame) (entries : List Entry) (y : ℕ) (u : Unread) : Type 0 where
  pub first : u.first ≡ unread X entries y (first_input (kind_at (graph X entries) y))
  pub second : second_rows u ≡ unread X entries y (second_input (kind_at (graph X entries) y))
  pub two : is_some u.second ≡ has_two (kind_at (graph X entries) y)

-- the inputs of variable y as they are
pub record AreInputsNow (r : Replica) (y : ℕ) (inputs : Inputs) : Type 0 where
  pub first : held_of (arc_value inputs.first) ≡ held_at r.states (first_input (kind_at (arc_value r.graph) y))
  pub second : held_of (second_of inputs) ≡ held_at r.states (second_input (kind_at (arc_value r.graph) y))
  pub two : is_some inputs.second ≡ has_two (kind_at (arc_value r.graph) y)

-- the state is what the process of variable y gives on its inputs as they are, and isn't too large
pub record IsUpToDate (r : Replica) (y : ℕ) (s : Held) : Type 0 where
  pub content : s.content ≡ equation (kind_at (arc_value r.graph) y) (contents_of r.states)
  pub number : s.number ≡ number_by (kind_at (arc_value r.graph) y) s.content
  pub small : size_of s.content ≤ row_limit

-- the rows of variable y with these joined in
abbrev pub rows_with : Replica → ℕ → List Row → List Row
rows_with r y rows = join (held_at r.states y).content.rows rows

-- with these rows variable y has those of its process on its inputs as they are
abbrev pub AreGiven : Replica → ℕ → List Row → Type 0
AreGiven r y rows = equation (kind_at (arc_value r.graph) y) (contents_of r.states) ≡ of_set (rows_with r y rows)

-- each of these rows is new in the state
abbrev pub AreNew : Held → List Row → Type 0
AreNew h rows = rows ≡ changed h.content.rows (join h.content.rows rows)

-- variable y has this state now, and the memory to write it down is there: that of one entry, and that of a growth by the new rows
pub record IsTakenOn (y : ℕ) (s : Held) (grows : Bool) (old new : Replica) : Type 0 where
  pub graph : arc_value new.graph ≡ arc_value old.graph
  pub opening : new.opening ≡ old.opening
  pub me : new.me ≡ old.me
  pub counts : new.counts ≡ old.counts
  pub processes : new.processes.items ≡ old.processes.items
  pub entries : new.journal.items ≡ old.journal.items
  pub room : vec_len new.journal < vec_capacity new.journal
  pub states : new.states ≡ slice_set old.states y s
  pub histories : map told new.histories.items ≡ map told old.histories.items
  pub ready : IsTrue (kept_at new.histories.items y).prepared
  pub pending : AreRowsOf (news_of (held_at old.states y).shape (held_at old.states y).content s.content) (kept_at new.histories.items y).pending
  pub still : IsFalse grows ↔ IsContentAtMost s.content (held_at old.states y).content
