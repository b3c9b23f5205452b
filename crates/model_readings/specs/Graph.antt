-- What the bytes of a graph say against a library: its declarations, or the first refusal, with the number of the declaration that it is about.
use Rattle.std.specs.Prelude.{ℕ, List, [], ◌∷◌, ◌++◌, length, if◌then◌else◌, nat_lt, nat_le, ◌&&◌, Option, Some, None, is_none, option_and_then, option_map, Result, Ok, codes}
use Rattle.std.specs.List.{position}
use Rattle.std.specs.Str.{bytes_eq}
use Rattle.serde_json.specs.Data.{Data}
use Rattle.serde_json.specs.Find.{at, as_array, as_u64}
use Rattle.model_functions.specs.Library.{Library, place_named, operations_at}
use Rattle.model_graph.specs.Chain.{◌>>=◌, check, or_else, refusing}
use Rattle.model_graph.specs.Graph.{Kind, OrSet, GSet, Counter, MaxReg, Union, Product, Intersection, Map, Filter, Fold, FoldOp, Sum, Xor, Modulo, Decl, is_set, decl_at}
use Rattle.model_graph.specs.Lawful.{variable_limit, width_limit, width_of, widths}
use Rattle.model_values.specs.Name.{is_name}
use Rattle.model_readings.specs.declared.graph_why.GraphWhy.{GraphWhy}
use Rattle.model_readings.specs.declared.graph_why.GraphWhy.TheVariants as why
use Rattle.model_readings.specs.Tree.{json_of, list_of, text_at, number_at, is_word_at, has_items, two}

-- the greatest number that a modulo may be by
abbrev pub modulo_limit : ℕ
modulo_limit = 4294967295

-- the forms of a declaration behind its name; inputs and functions are named
pub data Form : Type 0 where
  orset : Form
  gset : Form
  counter : Form
  maxreg : Form
  union : List ℕ → List ℕ → Form
  product : List ℕ → List ℕ → Form
  intersection : List ℕ → List ℕ → Form
  map : List ℕ → List ℕ → Form
  filter : List ℕ → List ℕ → Form
  fold : List ℕ → FoldOp → List ℕ → Form

-- a declaration as it is written
pub record Written : Type 0 where
  pub name : List ℕ
  pub form : Form

-- a form of a name and a word alone
abbrev pub source_form : Form → Data → Option Form
source_form form d = if has_items 2 d then Some form else None

-- the two names that stand behind the word of a process
unfoldable pub names_of : Data → Option (List ℕ × List ℕ)
names_of d = if has_items 4 d then two (λ x y. (x, y)) (text_at 2 d) (text_at 3 d) else None

-- a form of a name, a word and two names more
abbrev pub process_form : (List ℕ → List ℕ → Form) → Data → Option Form
process_form form d = option_map (λ p. form p.0 p.1) (names_of d)

-- a modulo by a number from 1 to the greatest
abbrev pub modulo_by : ℕ → Option FoldOp
modulo_by n = if nat_le 1 n && nat_le n modulo_limit then Some (Modulo n) else None

-- `["modulo",n]`
unfoldable pub modulo_of : Data → Option FoldOp
modulo_of d = if has_items 2 d && is_word_at 0 (codes "modulo") d then option_and_then modulo_by (option_and_then as_u64 (number_at 1 d)) else None

-- how a fold combines, which stands behind its input: `"sum"`, `"xor"` or a modulo
unfoldable pub fold_op_of : Data → Option FoldOp
fold_op_of d = if is_word_at 3 (codes "sum") d then Some Sum else (if is_word_at 3 (codes "xor") d then Some Xor else option_and_then modulo_of (at 3 d))

-- an input with the operation that folds it
abbrev pub operand : List ℕ → FoldOp → List ℕ × FoldOp
operand x op = (x, op)

abbrev pub folded : List ℕ × FoldOp → List ℕ → Form
folded p l = fold p.0 p.1 l

-- a form of a name, a word, an input, an operation and a lift
unfoldable pub fold_form : Data → Option Form
fold_form d = if has_items 5 d then two folded (two operand (text_at 2 d) (fold_op_of d)) (text_at 4 d) else None

-- `[name,word]` of a source, `[name,word,x,y]` of a process, `[name,"fold",x,op,l]` of a fold
unfoldable pub form_of : Data → Option Form
form_of d =
    if is_word_at 1 (codes "orset") d then source_form orset d
    else (if is_word_at 1 (codes "gset") d then source_form gset d
    else (if is_word_at 1 (codes "counter") d then source_form counter d
    else (if is_word_at 1 (codes "maxreg") d then source_form maxreg d
    else (if is_word_at 1 (codes "union") d then process_form union d
    else (if is_word_at 1 (codes "product") d then process_form product d
    else (if is_word_at 1 (codes "intersection") d then process_form intersection d
    else (if is_word_at 1 (codes "map") d then process_form map d
    else (if is_word_at 1 (codes "filter") d then process_form filter d
    else (if is_word_at 1 (codes "fold") d then fold_form d
    else None)))))))))

abbrev pub written : List ℕ → Form → Written
written name form = record { name = name; form = form }

unfoldable pub written_of : Data → Option Written
written_of d = two written (text_at 0 d) (form_of d)

-- the number of the variable with this name
unfoldable pub place_of : List ℕ → List Decl → Option ℕ
place_of name g = position (λ d. bytes_eq name d.name) g

-- the variable that an input names
abbrev pub known : List Decl → List ℕ → Result ℕ GraphWhy
known before name = or_else (place_of name before) why.UnknownInput

-- the input is a set
abbrev pub set_checked : List Decl → ℕ → Result (Unit {0}) GraphWhy
set_checked before x = check (is_set (decl_at before x).kind) why.WrongKind

-- a function that a name names: its place, and the operations there
abbrev pub stored : {A : Type 0} → List (List ℕ × A) → ℕ → Option (ℕ × A)
stored functions place = option_map (λ ops. (place, ops)) (operations_at functions place)

unfoldable pub function_named : {A : Type 0} → List (List ℕ × A) → List ℕ → Option (ℕ × A)
function_named functions name = option_and_then (stored functions) (place_named name functions)

-- both inputs are known, and then both are sets
unfoldable pub inputs_read : List Decl → List ℕ → List ℕ → Result (ℕ × ℕ) GraphWhy
inputs_read before x y = do
  i ← known before x
  j ← known before y
  _ ← set_checked before i
  _ ← set_checked before j
  Ok (i, j)

-- the input is known, and then a set
unfoldable pub input_read : List Decl → List ℕ → Result ℕ GraphWhy
input_read before x = do
  i ← known before x
  _ ← set_checked before i
  Ok i

-- the function is in the library
unfoldable pub function_read : {A : Type 0} → List (List ℕ × A) → List ℕ → Result (ℕ × A) GraphWhy
function_read functions name = or_else (function_named functions name) why.UnknownFunction

-- a process over two sets
abbrev pub pair_read : List Decl → (ℕ → ℕ → Kind) → List ℕ → List ℕ → Result Kind GraphWhy
pair_read before kind x y = inputs_read before x y >>= λ p. Ok (kind p.0 p.1)

-- a process over a set that applies a function
abbrev pub applied_read : {A : Type 0} → List Decl → List (List ℕ × A) → (ℕ → ℕ → A → Kind) → List ℕ → List ℕ → Result Kind GraphWhy
applied_read before functions kind x f = input_read before x >>= λ i. function_read functions f >>= λ p. Ok (kind i p.0 p.1)

abbrev pub kind_read : Library → List Decl → Form → Result Kind GraphWhy
kind_read lib before orset = Ok OrSet
kind_read lib before gset = Ok GSet
kind_read lib before counter = Ok Counter
kind_read lib before maxreg = Ok MaxReg
kind_read lib before (union x y) = pair_read before Union x y
kind_read lib before (product x y) = pair_read before Product x y
kind_read lib before (intersection x y) = pair_read before Intersection x y
kind_read lib before (map x f) = applied_read before lib.maps Map x f
kind_read lib before (filter x p) = applied_read before lib.predicates Filter x p
kind_read lib before (fold x op l) = applied_read before lib.lifts (λ i place lift. Fold i op place lift) x l

abbrev pub declaration : List ℕ → Kind → Decl
declaration name kind = record { name = name; kind = kind }

-- the variable is not too wide
abbrev pub width_checked : List Decl → Kind → Result (Unit {0}) GraphWhy
width_checked before kind = check (nat_le (width_of kind (widths before)) width_limit) why.TooWide

-- one declaration after those before it
unfoldable pub decl_read : Library → List Decl → Data → Result Decl GraphWhy
decl_read lib before d = do
  w ← or_else (written_of d) why.Shape
  _ ← check (is_name w.name) why.NameShape
  _ ← check (is_none (place_of w.name before)) why.NameTaken
  kind ← kind_read lib before w.form
  _ ← width_checked before kind
  Ok (declaration w.name kind)

-- the same where there is room for it
unfoldable pub next_read : Library → List Decl → Data → Result Decl GraphWhy
next_read lib before d = do
  _ ← check (nat_lt (length before) variable_limit) why.TooMany
  decl_read lib before d

abbrev pub numbered : {A E : Type 0} → ℕ → Result A E → Result A (ℕ × E)
numbered n = refusing (λ e. (n, e))

-- declarations after those before them
unfoldable pub decls_read : Library → List Decl → List Data → Result (List Decl) (ℕ × GraphWhy)
decls_read lib before [] = Ok before
decls_read lib before (d ∷ ds) = do
  decl ← numbered (length before) (next_read lib before d)
  decls_read lib (before ++ decl ∷ []) ds

-- the graph that a tree is
unfoldable pub tree_read : Library → Data → Result (List Decl) (ℕ × GraphWhy)
tree_read lib tree = do
  ds ← or_else (as_array tree) (0, why.Shape)
  decls_read lib [] (list_of ds)

-- the graph that the bytes are
unfoldable pub graph_of : Library → List ℕ → Result (List Decl) (ℕ × GraphWhy)
graph_of lib bytes = or_else (json_of bytes) (0, why.NotJson) >>= tree_read lib
