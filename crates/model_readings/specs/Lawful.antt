-- What accepted graphs are.
use Rattle.std.specs.Prelude.{◌≡◌, ◌≢◌, ℕ, ◌≤◌, List, length, take, slice_get, Some, IsTrue}
use Rattle.model_functions.specs.Library.{Library, operations_at}
use Rattle.model_graph.specs.Graph.{Kind, OrSet, GSet, Counter, MaxReg, Union, Product, Intersection, Map, Filter, Fold, Decl, is_set}
use Rattle.model_graph.specs.Lawful.{variable_limit, width_limit, width_of, widths, IsKind}
use Rattle.model_values.specs.Name.{is_name}

-- the variable is declared, and is a set
pub record IsSetAt (g : List Decl) (x : ℕ) : Type 0 where
  pub decl : Decl
  pub declared : slice_get g x ≡ Some decl
  pub set : IsTrue (is_set decl.kind)

-- the inputs are earlier declarations whose kind is a set
abbrev pub AreInputs : List Decl → Kind → Type 0
AreInputs before OrSet = Unit {0}
AreInputs before GSet = Unit {0}
AreInputs before Counter = Unit {0}
AreInputs before MaxReg = Unit {0}
AreInputs before (Union x y) = IsSetAt before x × IsSetAt before y
AreInputs before (Product x y) = IsSetAt before x × IsSetAt before y
AreInputs before (Intersection x y) = IsSetAt before x × IsSetAt before y
AreInputs before (Map x place ops) = IsSetAt before x
AreInputs before (Filter x place ops) = IsSetAt before x
AreInputs before (Fold x op place lift) = IsSetAt before x

-- the function that the kind applies is the one that stands in the library at its place
abbrev pub Fits : Library → Kind → Type 0
Fits lib (Map x place ops) = operations_at lib.maps place ≡ Some ops
Fits lib (Filter x place ops) = operations_at lib.predicates place ≡ Some ops
Fits lib (Fold x op place lift) = operations_at lib.lifts place ≡ Some lift
Fits lib _ = Unit {0}

-- a declaration may follow those before it: a name of a name's shape that is new, inputs that are earlier sets, values that are not too wide
pub record IsNext (before : List Decl) (d : Decl) : Type 0 where
  pub shape : IsTrue (is_name d.name)
  pub new : (i : ℕ) (e : Decl) → slice_get before i ≡ Some e → e.name ≢ d.name
  pub inputs : AreInputs before d.kind
  pub kind : IsKind d.kind
  pub narrow : width_of d.kind (widths before) ≤ width_limit

-- a graph: at most 64 declarations, each of which may follow those before it
pub record IsGraph (g : List Decl) : Type 0 where
  pub few : length g ≤ variable_limit
  pub each : (i : ℕ) (d : Decl) → slice_get g i ≡ Some d → IsNext (take i g) d

-- each function of the graph is the library's
abbrev pub FitsAll : Library → List Decl → Type 0
FitsAll lib g = (i : ℕ) (d : Decl) → slice_get g i ≡ Some d → Fits lib d.kind
