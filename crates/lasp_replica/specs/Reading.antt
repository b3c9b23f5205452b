-- What the parts that a replica keeps tell of the journal.
use Rattle.std.specs.Prelude.{◌≡◌, ℕ, ◌<◌, ◌≤◌, IsTrue, List, length, drop}
use Rattle.model_values.specs.Row.{Row}
use Rattle.model_sets.specs.Rows.{of_rows}
use Rattle.model_sets.specs.Equations.{changed}
use Rattle.model_states.specs.Content.{Content, IsContentAtMost, size_of, row_limit}
use Rattle.model_states.specs.Threshold.{set}
use Rattle.model_graph.specs.Graph.{Decl, Kind, is_set, kind_at}
use Rattle.model_graph.specs.Evaluation.{content_at, equation}
use Rattle.model_graph.specs.Width.{HasWidth}
use Rattle.model_graph.specs.Increment.{IsChange}
use Rattle.lasp_replica.specs.History.{History, version_before, rows_before}
use Rattle.lasp_graph.specs.States.{Held}
use Rattle.lasp_graph.specs.Evaluated.{process, derived_shape, number_by}
use Rattle.lasp_replica.specs.Parts.{Parts, first_input, second_input, history_at}

-- an input of variable y of a graph: an earlier set
pub record IsEarlierInput (g : List Decl) (y x : ℕ) : Type 0 where
  pub earlier : x < y
  pub declared : x < length g
  pub set : IsTrue (is_set (kind_at g x))

-- the variable's history has no growth since the first n entries
abbrev pub IsStill : Parts → ℕ → ℕ → Type 0
IsStill p n x = version_before (history_at p.histories x).growths n ≡ length (history_at p.histories x).growths

-- the rows that changed a variable since the first n entries
abbrev pub rows_since : History → ℕ → List Row
rows_since history n = of_rows (drop (rows_before history.growths n) history.log)

-- these rows made of the one content the other
pub record HasChanged (before now : Content) (rows : List Row) : Type 0 where
  pub rows_are : rows ≡ changed before.rows now.rows
  pub change : IsChange before.rows rows now.rows
  pub more : IsContentAtMost before now

-- a process is what its kind makes of the contents that it read
pub record IsOfItsKind (k : Kind) (before : List Content) (s : Held) : Type 0 where
  pub equation_is : s.content ≡ equation k before
  pub process_is : s.content ≡ process k (content_at before (first_input k)) (content_at before (second_input k))
  pub shape : s.shape ≡ derived_shape k
  pub number : s.number ≡ number_by k s.content

-- a set that is within the limits
pub record IsSmallSet (s : Held) : Type 0 where
  pub width : HasWidth 16 s.content
  pub small : size_of s.content ≤ row_limit
  pub shape : s.shape ≡ set
