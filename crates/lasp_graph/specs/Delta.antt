-- A process before its inputs changed, and what it gains by the changes.
use Rattle.std.specs.Prelude.{◌≡◌, List, [], Result, Ok, Err}
use Rattle.model_values.specs.Row.{Row}
use Rattle.model_states.specs.Content.{Content, of_set}
use Rattle.model_functions.specs.Map.{mapped}
use Rattle.model_functions.specs.Predicate.{passes}
use Rattle.model_sets.specs.Rows.{join}
use Rattle.model_sets.specs.Equations.{map_set, filter_set, product_set, intersect_set}
use Rattle.model_graph.specs.Graph.{Kind, OrSet, GSet, Counter, MaxReg, Union, Product, Intersection, Map, Filter, Fold}
use Rattle.model_graph.specs.Increment.{IsChange}
use Rattle.lasp_state.specs.declared.state.State.{State}
use Rattle.lasp_state.specs.State.{content_of, shape_of, number_of}
use Rattle.lasp_graph.specs.declared.inputs.EvalRefused.{EvalRefused}
use Rattle.lasp_graph.specs.declared.inputs.EvalRefused.TheVariants.{Memory}
use Rattle.lasp_graph.specs.Evaluated.{process, derived_shape, number_by}

-- the state of a process on these contents
pub record IsStateOf (k : Kind) (x y : Content) (s : State) : Type 0 where
  pub shape : shape_of s ≡ derived_shape k
  pub content : content_of s ≡ process k x y
  pub number : number_of s ≡ number_by k (content_of s)

-- the state of a process on the rows that its inputs had before these changes made them what they are
pub record IsStateBefore (k : Kind) (x_change x y_change y : List Row) (s : State) : Type 0 where
  pub first : List Row
  pub second : List Row
  pub first_grown : IsChange first x_change x
  pub second_grown : IsChange second y_change y
  pub state : IsStateOf k (of_set first) (of_set second) s

-- a refusal for want of memory alone
abbrev pub IsForMemory : {A : Type 0} → Result A EvalRefused → Type 0
IsForMemory (Ok a) = Unit {0}
IsForMemory (Err e) = e ≡ Memory

-- the same of a process that gives a set
pub record IsSetBefore (k : Kind) (x_change x y_change y rows : List Row) : Type 0 where
  pub first : List Row
  pub second : List Row
  pub first_grown : IsChange first x_change x
  pub second_grown : IsChange second y_change y
  pub was : of_set rows ≡ process k (of_set first) (of_set second)

-- the rows that a process gains where its inputs changed: what the changed rows give; of two inputs each change meets the other input as it is now, and a fold covers the change
abbrev pub gained : Kind → List Row → List Row → List Row → List Row → List Row
gained OrSet x_change x y_change y = []
gained GSet x_change x y_change y = []
gained Counter x_change x y_change y = []
gained MaxReg x_change x y_change y = []
gained (Union i j) x_change x y_change y = join x_change y_change
gained (Product i j) x_change x y_change y = join (product_set x_change y) (product_set x y_change)
gained (Intersection i j) x_change x y_change y = join (intersect_set x_change y) (intersect_set x y_change)
gained (Map i place ops) x_change x y_change y = map_set (mapped ops) x_change
gained (Filter i place ops) x_change x y_change y = filter_set (passes ops) x_change
gained (Fold i op place lift) x_change x y_change y = x_change
