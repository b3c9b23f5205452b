-- What a command needs of the nodes and of what stands before it, and what it brings.
use Rattle.std.specs.Prelude.{◌≡◌, ℕ, ℤ, ◌<◌, ◌≤◌, List, [], ◌∷◌, length, slice_get, slice_index_or, Bool, IsTrue, Option, Some, None, Ok}
use Rattle.serde_json.specs.Data.{Data, Num}
use Rattle.serde_json.specs.Find.{as_u64, as_i64}
use Rattle.model_values.specs.Value.{Val}
use Rattle.model_values.specs.Json.{read_value}
use Rattle.model_states.specs.Threshold.{is_counted, has_values, has_rows}
use Rattle.model_functions.specs.Library.{Library}
use Rattle.model_graph.specs.Graph.{Kind, Decl, is_source, kind_at}
use Rattle.model_graph.specs.Lawful.{shape_of, variable_limit}
use Rattle.model_readings.specs.declared.graph_why.GraphWhy.{GraphWhy}
use Rattle.model_readings.specs.declared.graph_why.GraphWhy.TheVariants as graph_why
use Rattle.model_readings.specs.Graph.{place_of, decl_read}
use Rattle.model_world.specs.Lawful.{mark_limit, read_limit, is_mark, is_read}
use Rattle.model_scripts.specs.declared.script_why.ScriptWhy.{ScriptWhy}
use Rattle.model_scripts.specs.declared.script_why.ScriptWhy.TheVariants as why
use Rattle.model_scripts.specs.Word.{Bound, at_least, above, count, added, removed, Word, add, remove, insert, inc, max, mark, bind, read, await, declare}
use Rattle.model_scripts.specs.Progress.{Progress, next_number, mark_of}
use Rattle.model_scripts.specs.Parts.{step_limit}
use Rattle.model_scripts.specs.Check.{command_limit, is_orset, is_gset, is_counter, is_maxreg, node_in, var_in, mark_in, new_mark_in, message_in, count_of}

-- what is there, if anything, has the property
abbrev pub Needs : {A : Type 0} → (A → Type 0) → Option A → Type 0
Needs P None = Unit {0}
Needs P (Some x) = P x

-- the number is a whole one below the limit
pub record IsBelow (limit : ℕ) (n : Num) : Type 0 where
  pub number : ℕ
  pub is : as_u64 n ≡ Some number
  pub below : number < limit

-- one of the declarations has the name
pub record IsDeclared (g : List Decl) (name : List ℕ) : Type 0 where
  pub place : ℕ
  pub decl : Decl
  pub at : slice_get g place ≡ Some decl
  pub name_is : decl.name ≡ name

-- one of the marks has the name
pub record IsMarked (names : List (List ℕ)) (name : List ℕ) : Type 0 where
  pub number : ℕ
  pub at : slice_get names number ≡ Some name

-- what a command declares, if it declares anything, may follow the graph
abbrev pub CanDeclare : Library → List Decl → Word → Type 0
CanDeclare lib g (declare d) = (decl : Decl) × (decl_read lib g d ≡ Ok decl)
CanDeclare lib g _ = Unit {0}

abbrev pub HasNode : ℕ → Word → Type 0
HasNode nodes w = Needs (IsBelow nodes) (node_in w)

abbrev pub HasVar : List Decl → Word → Type 0
HasVar g w = Needs (IsDeclared g) (var_in w)

abbrev pub HasMark : List (List ℕ) → Word → Type 0
HasMark names w = Needs (IsMarked names) (mark_in w)

abbrev pub HasNewMark : List (List ℕ) → Word → Type 0
HasNewMark names w = Needs (λ m. ¬ IsMarked names m) (new_mark_in w)

-- a message with this number was sent
abbrev pub WasSent : ℕ → Word → Type 0
WasSent sent w = Needs (IsBelow sent) (message_in w)

-- the variable of this name is of a kind that passes the test
pub record IsOfKind (g : List Decl) (name : List ℕ) (works : Kind → Bool) : Type 0 where
  pub place : ℕ
  pub named : place_of name g ≡ Some place
  pub kind : IsTrue (works (kind_at g place))

-- the mark of the one name was made of the variable of the other
pub record IsMarkOf (p : Progress) (m name : List ℕ) : Type 0 where
  pub number : ℕ
  pub place : ℕ
  pub marked : mark_of m p.names ≡ Some number
  pub named : place_of name p.stage.graph ≡ Some place
  pub same : slice_index_or p.stage.marked number 0 ≡ place

-- the variable of this name may be asked for the threshold
abbrev pub Suits : ℕ → Progress → List ℕ → Bound → Type 0
Suits nodes p name (at_least m) = IsMarkOf p m name
Suits nodes p name (above m) = IsMarkOf p m name
Suits nodes p name (count k) = IsOfKind p.stage.graph name (λ kind. is_counted (shape_of nodes kind))
Suits nodes p name (added vs) = IsOfKind p.stage.graph name (λ kind. has_values (shape_of nodes kind))
Suits nodes p name (removed vs) = IsOfKind p.stage.graph name (λ kind. has_rows (shape_of nodes kind))

-- the variable is one that the word works on
abbrev pub IsRight : ℕ → Progress → Word → Type 0
IsRight nodes p (add t v) = IsOfKind p.stage.graph t.var is_orset
IsRight nodes p (remove t v) = IsOfKind p.stage.graph t.var is_orset
IsRight nodes p (insert t v) = IsOfKind p.stage.graph t.var is_gset
IsRight nodes p (inc t k) = IsOfKind p.stage.graph t.var is_counter
IsRight nodes p (max t k) = IsOfKind p.stage.graph t.var is_maxreg
IsRight nodes p (mark t m) = IsOfKind p.stage.graph t.var is_source
IsRight nodes p (bind t m) = IsOfKind p.stage.graph t.var is_source × IsMarkOf p m t.var
IsRight nodes p (read t b) = Suits nodes p t.var b
IsRight nodes p (await t b) = Suits nodes p t.var b
IsRight nodes p _ = Unit {0}

-- the tree stands for a value that a set may be handed
abbrev pub IsValue : Data → Type 0
IsValue d = (v : Val) × (read_value d ≡ Ok v)

abbrev pub AreValues : List Data → Type 0
AreValues [] = Unit {0}
AreValues (d ∷ ds) = IsValue d × AreValues ds

-- the number is one that a counter may go up by
pub record IsStep (n : Num) : Type 0 where
  pub step : ℕ
  pub is : as_u64 n ≡ Some step
  pub some : 1 ≤ step
  pub most : step ≤ step_limit

abbrev pub IsBroughtBound : Bound → Type 0
IsBroughtBound (at_least m) = Unit {0}
IsBroughtBound (above m) = Unit {0}
IsBroughtBound (count k) = (n : ℕ) × (as_u64 k ≡ Some n)
IsBroughtBound (added vs) = AreValues vs
IsBroughtBound (removed vs) = AreValues vs

-- what the word brings is a value or number that the variable may be handed or asked for
abbrev pub IsBrought : Word → Type 0
IsBrought (add t v) = IsValue v
IsBrought (remove t v) = IsValue v
IsBrought (insert t v) = IsValue v
IsBrought (inc t k) = IsStep k
IsBrought (max t k) = (n : ℤ) × (as_i64 k ≡ Some n)
IsBrought (read t b) = IsBroughtBound b
IsBrought (await t b) = IsBroughtBound b
IsBrought _ = Unit {0}

-- fewer marks, reads and variables stand before it than there may be
abbrev pub HasRoomBeside : Progress → Word → Type 0
HasRoomBeside p (mark t m) = count_of is_mark p < mark_limit
HasRoomBeside p (read t b) = count_of is_read p < read_limit
HasRoomBeside p (declare d) = length p.stage.graph < variable_limit
HasRoomBeside p _ = Unit {0}

-- its number is one that a command may have, and there is room for what it makes
abbrev pub HasRoom : Progress → Word → Type 0
HasRoom p w = (next_number p < command_limit) × HasRoomBeside p w

-- the causes for which what has the form of a declaration is refused
abbrev pub IsDeclarationCause : GraphWhy → Type 0
IsDeclarationCause graph_why.NameShape = Unit {0}
IsDeclarationCause graph_why.NameTaken = Unit {0}
IsDeclarationCause graph_why.UnknownInput = Unit {0}
IsDeclarationCause graph_why.WrongKind = Unit {0}
IsDeclarationCause graph_why.UnknownFunction = Unit {0}
IsDeclarationCause graph_why.TooWide = Unit {0}
IsDeclarationCause _ = ⊥

-- the causes for which a command is refused
abbrev pub IsCommandCause : ScriptWhy → Type 0
IsCommandCause why.NotJson = ⊥
IsCommandCause _ = Unit {0}
