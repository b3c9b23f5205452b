-- What is known of a job: what it is asked on, and what it gained. Each fact has one proof at most.
use Rattle.std.specs.Prelude.{◌≡◌, ℕ, ◌≤◌, Bool, true, false, List, Option, Some, None, is_some}
use Rattle.std.specs.Arc.{arc_value}
use Rattle.std.specs.Coded.{Coded-set, Unit-prop, le_prop, coded_bool, coded_ℤ}
use Rattle.model_values.specs.Value.{Val}
use Rattle.model_values.specs.Row.{Row, coded_rows}
use Rattle.model_values.specs.Size.{IsOfWidth}
use Rattle.model_sets.specs.Rows.{join}
use Rattle.model_states.specs.Content.{Content, size_of, row_limit}
use Rattle.model_states.specs.Threshold.{set}
use Rattle.model_graph.specs.Graph.{Kind, OrSet, GSet, Counter, MaxReg, Union, Product, Intersection, Map, Filter, Fold, Decl, kind_at}
use Rattle.model_graph.specs.Lawful.{IsDerived}
use Rattle.model_graph.specs.Width.{HasWidth}
use Rattle.model_graph.specs.Increment.{IsChange}
use Rattle.lasp_state.specs.declared.state.State.{State}
use Rattle.lasp_state.specs.State.{content_of, shape_of}
use Rattle.lasp_graph.specs.declared.inputs.Inputs.{Inputs}
use Rattle.model_states.specs.Coded.{coded_shape, coded_content}
use Rattle.lasp_graph.specs.Evaluated.{process, second_of}
use Rattle.lasp_graph.specs.Delta.{IsStateOf}

-- whether a process reads two variables
abbrev pub has_two : Kind → Bool
has_two OrSet = false
has_two GSet = false
has_two Counter = false
has_two MaxReg = false
has_two (Union x y) = true
has_two (Product x y) = true
has_two (Intersection x y) = true
has_two (Map x place ops) = false
has_two (Filter x place ops) = false
has_two (Fold x op place lift) = false

-- the state of an input: a set of few enough rows, none too large
pub record IsReadable (s : State) : Type 0 where
  pub shape : shape_of s ≡ set
  pub width : HasWidth 16 (content_of s)
  pub small : size_of (content_of s) ≤ row_limit

-- what a job of a variable is asked on: its inputs, its state on the inputs of its last evaluation, and rows by which those became these
pub record IsAsked (g : List Decl) (y : ℕ) (inputs base : Inputs) (old : State) (first second : List Row) : Type 0 where
  pub derived : IsDerived g y
  pub two : is_some inputs.second ≡ has_two (kind_at g y)
  pub base_two : is_some base.second ≡ has_two (kind_at g y)
  pub first_input : IsReadable (arc_value inputs.first)
  pub second_input : IsReadable (second_of inputs)
  pub first_set : shape_of (arc_value base.first) ≡ set
  pub second_set : shape_of (second_of base) ≡ set
  pub first_change : IsChange (content_of (arc_value base.first)).rows first (content_of (arc_value inputs.first)).rows
  pub second_change : IsChange (content_of (second_of base)).rows second (content_of (second_of inputs)).rows
  pub state : IsStateOf (kind_at g y) (content_of (arc_value base.first)) (content_of (second_of base)) old

-- the rows that a job gained, where it was evaluated: joined into the rows before they give those of the process on its inputs
abbrev pub IsGained : Kind → Inputs → State → Option (List Row) → Type 0
IsGained k inputs old None = Unit {0}
IsGained k inputs old (Some rows) = join (content_of old).rows rows ≡ (process k (content_of (arc_value inputs.first)) (content_of (second_of inputs))).rows

IsDerived-prop : (g : List Decl) (y : ℕ) → IsProp (IsDerived g y)
IsDerived-prop g y a b i = record { declared = le_prop a.declared b.declared i; process = Coded-set coded_bool _ _ a.process b.process i }

IsOfWidth-prop : (w : ℕ) (v : Val) → IsProp (IsOfWidth w v)
IsOfWidth-prop w v a b i = record { leaves = le_prop a.leaves b.leaves i; bytes = le_prop a.bytes b.bytes i }

HasWidth-prop : (w : ℕ) (s : Content) → IsProp (HasWidth w s)
HasWidth-prop w s a b i = record {
  values = λ v t row. IsOfWidth-prop w v (a.values v t row) (b.values v t row) i;
  tokens = λ v t row. le_prop (a.tokens v t row) (b.tokens v t row) i;
}

IsReadable-prop : (s : State) → IsProp (IsReadable s)
IsReadable-prop s a b i = record {
  shape = Coded-set coded_shape _ _ a.shape b.shape i;
  width = HasWidth-prop 16 (content_of s) a.width b.width i;
  small = le_prop a.small b.small i;
}

IsChange-prop : (before rows after : List Row) → IsProp (IsChange before rows after)
IsChange-prop before rows after a b i = record {
  was = Coded-set coded_bool _ _ a.was b.was i;
  ascends = Coded-set coded_bool _ _ a.ascends b.ascends i;
  joined = Coded-set coded_rows _ _ a.joined b.joined i;
}

IsStateOf-prop : (k : Kind) (x y : Content) (s : State) → IsProp (IsStateOf k x y s)
IsStateOf-prop k x y s a b i = record {
  shape = Coded-set coded_shape _ _ a.shape b.shape i;
  content = Coded-set coded_content _ _ a.content b.content i;
  number = Coded-set coded_ℤ _ _ a.number b.number i;
}

pub IsAsked-prop : (g : List Decl) (y : ℕ) (inputs base : Inputs) (old : State) (first second : List Row) → IsProp (IsAsked g y inputs base old first second)
IsAsked-prop g y inputs base old first second a b i = record {
  derived = IsDerived-prop g y a.derived b.derived i;
  two = Coded-set coded_bool _ _ a.two b.two i;
  base_two = Coded-set coded_bool _ _ a.base_two b.base_two i;
  first_input = IsReadable-prop (arc_value inputs.first) a.first_input b.first_input i;
  second_input = IsReadable-prop (second_of inputs) a.second_input b.second_input i;
  first_set = Coded-set coded_shape _ _ a.first_set b.first_set i;
  second_set = Coded-set coded_shape _ _ a.second_set b.second_set i;
  first_change = IsChange-prop _ first _ a.first_change b.first_change i;
  second_change = IsChange-prop _ second _ a.second_change b.second_change i;
  state = IsStateOf-prop (kind_at g y) _ _ old a.state b.state i;
}

pub IsGained-prop : (k : Kind) (inputs : Inputs) (old : State) (gain : Option (List Row)) → IsProp (IsGained k inputs old gain)
IsGained-prop k inputs old None = Unit-prop
IsGained-prop k inputs old (Some rows) = Coded-set coded_rows _ _
