-- That what evaluation returned is the plain evaluation, or the first variable that is too large.
use Rattle.std.specs.Prelude.{◌≡◌, ℕ, ℤ, pos, IsFalse, ◌<◌, ◌≤◌, List, [], ◌∷◌, length, Option, Some, None, Result, Ok, Err, IsTrue, if◌then◌else◌}
use Rattle.model_functions.specs.Map.{mapped}
use Rattle.model_functions.specs.Predicate.{passes}
use Rattle.model_sets.specs.Equations.{map_set, filter_set, union_set, product_set, intersect_set}
use Rattle.model_states.specs.Content.{Content, least, of_set, size_of, row_limit}
use Rattle.model_states.specs.Threshold.{Shape, set}
use Rattle.model_graph.specs.Graph.{Kind, OrSet, GSet, Counter, MaxReg, Union, Product, Intersection, Map, Filter, Fold, Decl, is_source, is_set, kind_at}
use Rattle.model_graph.specs.Lawful as lawful
use Rattle.model_graph.specs.Fold.{fold_rows}
use Rattle.model_graph.specs.Evaluation.{content_at, first_large}
use Rattle.model_graph.specs.Width.{HasWidth}
use Rattle.lasp_graph.specs.States.{Held, held_at, contents_of}
use Rattle.std.specs.Arc.{arc_value}
use Rattle.std.specs.declared.sync.Arc.{Arc}
use Rattle.lasp_state.specs.declared.state.State.{State}
use Rattle.lasp_graph.specs.declared.inputs.Inputs.{Inputs}
use Rattle.lasp_graph.specs.declared.inputs.EvalRefused.{EvalRefused}
use Rattle.lasp_graph.specs.declared.inputs.EvalRefused.TheVariants as node
use Rattle.lasp_graph.specs.declared.inputs.EvalAll.{EvalAll}
use Rattle.lasp_graph.specs.declared.inputs.EvalAll.TheVariants as all

-- the inputs of a process; a process over one set has it as both
abbrev pub inputs_of : Kind → Option (ℕ × ℕ)
inputs_of OrSet = None
inputs_of GSet = None
inputs_of Counter = None
inputs_of MaxReg = None
inputs_of (Union x y) = Some (x, y)
inputs_of (Product x y) = Some (x, y)
inputs_of (Intersection x y) = Some (x, y)
inputs_of (Map x place ops) = Some (x, x)
inputs_of (Filter x place ops) = Some (x, x)
inputs_of (Fold x op place lift) = Some (x, x)

-- a process on the contents of its inputs
abbrev pub process : Kind → Content → Content → Content
process OrSet x y = least
process GSet x y = least
process Counter x y = least
process MaxReg x y = least
process (Union i j) x y = of_set (union_set x.rows y.rows)
process (Product i j) x y = of_set (product_set x.rows y.rows)
process (Intersection i j) x y = of_set (intersect_set x.rows y.rows)
process (Map i place ops) x y = of_set (map_set (mapped ops) x.rows)
process (Filter i place ops) x y = of_set (filter_set (passes ops) x.rows)
process (Fold i op place lift) x y = of_set x.rows

-- none of the contents is too large
abbrev pub AreSmall : List Content → Type 0
AreSmall [] = Unit {0}
AreSmall (s ∷ contents) = (size_of s ≤ row_limit) × AreSmall contents

-- one variable was evaluated to this content, or has too many rows, unless memory ran out
abbrev pub Becomes : Result Content EvalRefused → Content → Type 0
Becomes (Ok s) content = (content ≡ s) × (size_of s ≤ row_limit)
Becomes (Err node.TooManyRows) content = row_limit < size_of content
Becomes (Err node.Memory) content = Unit {0}

-- all were evaluated to these contents, or the first that is too large was told, unless memory ran out
abbrev pub Evaluates : Result (List Content) EvalAll → List Content → Type 0
Evaluates (Ok states) contents = (contents ≡ states) × AreSmall contents
Evaluates (Err (all.TooLarge x)) contents = first_large 0 contents ≡ Some x
Evaluates (Err all.Memory) contents = Unit {0}

-- the refusal of the graph whose variable with this number is refused
abbrev pub stopped_at : ℕ → EvalRefused → EvalAll
stopped_at x node.TooManyRows = all.TooLarge x
stopped_at x node.Memory = all.Memory

-- an answer, its state seen by view
abbrev pub seen : {X Y E : Type 0} → (X → Y) → Result X E → Result Y E
seen view (Ok x) = Ok (view x)
seen view (Err e) = Err e

-- the sets among the sources are held as sets
abbrev pub AreSets : List Decl → List Held → Type 0
AreSets g sources = (x : ℕ) → x < length g → IsTrue (is_source (kind_at g x)) → IsTrue (is_set (kind_at g x)) → (held_at sources x).shape ≡ set

-- the sources are of width 1
abbrev pub AreNarrow : List Decl → List Held → Type 0
AreNarrow g sources = (x : ℕ) → x < length g → IsTrue (is_source (kind_at g x)) → HasWidth 1 (content_at (contents_of sources) x)

-- what sort of content a process has, whatever the number of nodes: a fold's, or a set
abbrev pub derived_shape : Kind → Shape
derived_shape k = lawful.shape_of 0 k

-- what sort of content each variable was evaluated to: a source's own, and its kind's where it is derived
abbrev pub shape_after : Kind → Shape → Shape
shape_after k shape = if is_source k then shape else derived_shape k

-- the number of a process that covers these rows: that of a fold, else 0
abbrev pub number_by : Kind → Content → ℤ
number_by (Fold x op place lift) s = fold_rows op lift s.rows
number_by _ s = pos 0

-- the number of each derived variable is that of its kind
abbrev pub KeepNumbers : ℕ → List Decl → List Held → Type 0
KeepNumbers many g states = (x : ℕ) → x < many → IsFalse (is_source (kind_at g x)) → (held_at states x).number ≡ number_by (kind_at g x) (held_at states x).content

abbrev pub KeepShapes : ℕ → List Decl → List Held → List Held → Type 0
KeepShapes many g sources states = (x : ℕ) → x < many → (held_at states x).shape ≡ shape_after (kind_at g x) (held_at sources x).shape

-- the second input that a process reads: where there is none, the first once more
abbrev pub second_or : {Z : Type 0} → State → Option (Arc State Z) → State
second_or first None = first
second_or first (Some second) = arc_value second

abbrev pub second_of : Inputs → State
second_of inputs = second_or (arc_value inputs.first) inputs.second
