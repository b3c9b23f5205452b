-- What a replica keeps beside its journal, as plain data, and when it is what the journal says.
use Rattle.std.specs.Prelude.{◌≡◌, ℕ, pos, ◌<◌, if◌then◌else◌, Bool, List, [], length, take, slice_index_or, Option, Some, None, IfSome, IsTrue, IsFalse}
use Rattle.model_values.specs.Row.{Row}
use Rattle.model_sets.specs.Rows.{of_rows}
use Rattle.model_sets.specs.Equations.{changed}
use Rattle.model_sets.specs.Rises.{AreApart}
use Rattle.model_states.specs.Content.{Content}
use Rattle.model_states.specs.Threshold.{Shape, set}
use Rattle.model_graph.specs.Graph.{Kind, Decl, is_source, kind_at}
use Rattle.model_graph.specs.Evaluation.{content_at, least_of}
use Rattle.model_graph.specs.Lawful.{IsDerived, shape_of}
use Rattle.model_journal.specs.Entry.{Entry, Frame}
use Rattle.model_journal.specs.Journal as journal
use Rattle.model_journal.specs.Journal.{vals}
use Rattle.model_journal.specs.Clean.{base}
use Rattle.lasp_replica.specs.History.{History, no_history, IsHistory}
use Rattle.lasp_graph.specs.States.{Held, held_at, contents_of}
use Rattle.lasp_graph.specs.Evaluated.{inputs_of, number_by}
use Rattle.lasp_replica.specs.Asked.{has_two}

-- the inputs that a process read
pub record Read : Type 0 where
  pub first : Held
  -- the second input; where the process has one alone, that one again
  pub second : Held
  pub two : Bool

-- what a process last read: how many entries stood then, and its inputs as they were, where these are kept
pub record Base : Type 0 where
  pub entries : ℕ
  pub inputs : Option Read

-- what a replica keeps
pub record Parts : Type 0 where
  pub graph : List Decl
  pub counts : List ℕ
  pub states : List Held
  pub histories : List History
  -- of each process; none of a source
  pub bases : List (Option Base)

-- the places of the inputs of a process
abbrev pub places_of : Option (ℕ × ℕ) → ℕ × ℕ
places_of None = (0, 0)
places_of (Some places) = places

abbrev pub first_input : Kind → ℕ
first_input k = (places_of (inputs_of k)).0

abbrev pub second_input : Kind → ℕ
second_input k = (places_of (inputs_of k)).1

-- the inputs of a process of this kind, as the contents have them
pub record IsRead (k : Kind) (contents : List Content) (r : Read) : Type 0 where
  pub first : r.first.content ≡ content_at contents (first_input k)
  pub second : r.second.content ≡ content_at contents (second_input k)
  pub first_set : r.first.shape ≡ set
  pub second_set : r.second.shape ≡ set
  pub two : r.two ≡ has_two k

-- what is kept of the inputs of a process of this kind is as the contents have them
abbrev pub IsBase : Kind → List Content → Base → Type 0
IsBase k contents b = IfSome b.inputs (IsRead k contents)

-- what variable y last read, after the entries; nothing where it is a source
abbrev pub IsBaseAt : Frame → List Entry → Kind → ℕ → Option Base → Type 0
IsBaseAt X entries k y None = IsTrue (is_source k)
IsBaseAt X entries k y (Some b) = IsFalse (is_source k) × (b.entries ≡ base X entries y) × IsBase k (vals X (take b.entries entries)) b

abbrev pub history_at : List History → ℕ → History
history_at histories x = slice_index_or histories x no_history

abbrev pub base_at : List (Option Base) → ℕ → Option Base
base_at bases y = slice_index_or bases y None

-- a process that has read nothing yet; nothing of a source
abbrev pub fresh_base : Kind → Option Base
fresh_base k = if is_source k then None else Some (record { entries = 0; inputs = None })

-- a variable before anything happened, among so many nodes
abbrev pub fresh_state : ℕ → Decl → Held
fresh_state nodes d = record { shape = shape_of nodes d.kind; content = least_of nodes d.kind; number = pos 0 }

-- the rows that a content brings to another one, where they are sets
abbrev pub news_of : Shape → Content → Content → List Row
news_of set s t = changed s.rows t.rows
news_of _ s t = []

-- rows in any order, each key once, that make these
pub record AreRowsOf (news rows : List Row) : Type 0 where
  pub made : of_rows rows ≡ news
  pub apart : AreApart rows

-- what a replica keeps is what its journal says
pub record IsKept (X : Frame) (entries : List Entry) (p : Parts) : Type 0 where
  pub graph : p.graph ≡ journal.graph X entries
  pub counts : p.counts ≡ journal.counts X entries
  pub contents : contents_of p.states ≡ vals X entries
  pub shapes : (x : ℕ) → x < length p.graph → (held_at p.states x).shape ≡ shape_of X.nodes (kind_at p.graph x)
  pub numbers : (y : ℕ) → IsDerived p.graph y → (held_at p.states y).number ≡ number_by (kind_at p.graph y) (held_at p.states y).content
  pub histories_many : length p.histories ≡ length p.graph
  pub histories : (x : ℕ) → x < length p.graph → IsHistory X entries x (history_at p.histories x)
  pub bases_many : length p.bases ≡ length p.graph
  pub bases : (y : ℕ) → y < length p.graph → IsBaseAt X entries (kind_at p.graph y) y (base_at p.bases y)
