-- What a graph is: how wide its variables are, and which declaration may follow which.
use Rattle.std.specs.Prelude.{◌≢◌, ℕ, ◌+◌, ◌<◌, ◌≤◌, max, IsTrue, IsFalse, List, [], ◌∷◌, ◌++◌, length, take, filter, slice_index_or}
use Rattle.model_states.specs.Threshold.{Shape, set, grow, counter, register, fold}
use Rattle.model_graph.specs.Graph.{Kind, OrSet, GSet, Counter, MaxReg, Union, Product, Intersection, Map, Filter, Fold, FoldOp, Modulo, Decl, is_source, is_set, IsInput, kind_at, name_at, decl_at}

-- the most variables of a graph
abbrev pub variable_limit : ℕ
variable_limit = 64

-- the greatest width of a variable
abbrev pub width_limit : ℕ
width_limit = 16

abbrev pub width_at : List ℕ → ℕ → ℕ
width_at widths x = slice_index_or widths x 0

-- how wide a variable is, from the widths of the variables before it: how many source values stand in a value of it
abbrev pub width_of : Kind → List ℕ → ℕ
width_of OrSet widths = 1
width_of GSet widths = 1
width_of Counter widths = 1
width_of MaxReg widths = 1
width_of (Union x y) widths = max (width_at widths x) (width_at widths y)
width_of (Product x y) widths = width_at widths x + width_at widths y
width_of (Intersection x y) widths = width_at widths x + width_at widths y
width_of (Map x place ops) widths = width_at widths x
width_of (Filter x place ops) widths = width_at widths x
width_of (Fold x op place lift) widths = width_at widths x

-- the widths of declarations after those of the ones before them
abbrev pub widths_from : List Decl → List ℕ → List ℕ
widths_from [] done = done
widths_from (d ∷ g) done = widths_from g (done ++ width_of d.kind done ∷ [])

-- the width of each variable of a graph
abbrev pub widths : List Decl → List ℕ
widths g = widths_from g []

-- a modulo is by 1 at least
abbrev pub IsFoldOp : FoldOp → Type 0
IsFoldOp (Modulo n) = 1 ≤ n
IsFoldOp _ = Unit {0}

-- what the kind says beside its inputs can be done
abbrev pub IsKind : Kind → Type 0
IsKind (Fold x op place lift) = IsFoldOp op
IsKind _ = Unit {0}

-- the declaration may follow these: its name is new, its inputs are earlier sets, it is not too wide, and there is room
pub record MayFollow (g : List Decl) (d : Decl) : Type 0 where
  pub new : (x : ℕ) → x < length g → name_at g x ≢ d.name
  pub earlier : (x : ℕ) → IsInput d.kind x → x < length g
  pub sets : (x : ℕ) → IsInput d.kind x → IsTrue (is_set (kind_at g x))
  pub kind : IsKind d.kind
  pub narrow : width_of d.kind (widths g) ≤ width_limit
  pub room : length g < variable_limit

-- each declaration may follow those before it
abbrev pub IsGraph : List Decl → Type 0
IsGraph g = (y : ℕ) → y < length g → MayFollow (take y g) (decl_at g y)

-- the variable is declared and derived
pub record IsDerived (g : List Decl) (y : ℕ) : Type 0 where
  pub declared : y < length g
  pub process : IsFalse (is_source (kind_at g y))

-- the sources among some declarations, in their order
abbrev pub sources_among : List Decl → List Decl
sources_among g = filter (λ d. is_source d.kind) g

-- what a variable of the kind holds, among so many nodes
abbrev pub shape_of : ℕ → Kind → Shape
shape_of nodes OrSet = set
shape_of nodes GSet = grow
shape_of nodes Counter = counter nodes
shape_of nodes MaxReg = register
shape_of nodes (Union x y) = set
shape_of nodes (Product x y) = set
shape_of nodes (Intersection x y) = set
shape_of nodes (Map x place ops) = set
shape_of nodes (Filter x place ops) = set
shape_of nodes (Fold x op place lift) = fold
