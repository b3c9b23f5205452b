-- A graph is a list of declarations; each variable is named by its place in the list.
use Rattle.std.specs.Prelude.{◌≡◌, ℕ, ◌⊎◌, List, [], Bool, true, false, slice_index_or}
use Rattle.model_functions.specs.Map.{MapOp}
use Rattle.model_functions.specs.Predicate.{PredOp}
use Rattle.model_functions.specs.Lift.{LiftOp}

-- how a fold combines the numbers of the visible values
pub data FoldOp : Type 0 where
  -- their sum
  Sum : FoldOp
  -- their bits, each as often odd or even, over 128 bits
  Xor : FoldOp
  -- the remainder of their sum by this number
  Modulo : ℕ → FoldOp

-- what a variable is: a source, or a process over earlier variables; a function has its place in the library and its operations
pub data Kind : Type 0 where
  OrSet : Kind
  GSet : Kind
  Counter : Kind
  MaxReg : Kind
  Union : ℕ → ℕ → Kind
  Product : ℕ → ℕ → Kind
  Intersection : ℕ → ℕ → Kind
  Map : ℕ → ℕ → List MapOp → Kind
  Filter : ℕ → ℕ → List PredOp → Kind
  Fold : ℕ → FoldOp → ℕ → LiftOp → Kind

pub record Decl : Type 0 where
  pub name : List ℕ
  pub kind : Kind

abbrev pub is_source : Kind → Bool
is_source OrSet = true
is_source GSet = true
is_source Counter = true
is_source MaxReg = true
is_source (Union x y) = false
is_source (Product x y) = false
is_source (Intersection x y) = false
is_source (Map x place ops) = false
is_source (Filter x place ops) = false
is_source (Fold x op place lift) = false

-- the kinds that may be an input: those whose content is a set with tokens
abbrev pub is_set : Kind → Bool
is_set OrSet = true
is_set GSet = false
is_set Counter = false
is_set MaxReg = false
is_set (Union x y) = true
is_set (Product x y) = true
is_set (Intersection x y) = true
is_set (Map x place ops) = true
is_set (Filter x place ops) = true
is_set (Fold x op place lift) = false

-- x is an input of a variable of this kind
abbrev pub IsInput : Kind → ℕ → Type 0
IsInput OrSet x = ⊥
IsInput GSet x = ⊥
IsInput Counter x = ⊥
IsInput MaxReg x = ⊥
IsInput (Union a b) x = (x ≡ a) ⊎ (x ≡ b)
IsInput (Product a b) x = (x ≡ a) ⊎ (x ≡ b)
IsInput (Intersection a b) x = (x ≡ a) ⊎ (x ≡ b)
IsInput (Map a place ops) x = x ≡ a
IsInput (Filter a place ops) x = x ≡ a
IsInput (Fold a op place lift) x = x ≡ a

-- past the end of the graph stands a source without a name, so that a derived variable is always a declared one
abbrev pub no_decl : Decl
no_decl = record { name = []; kind = OrSet }

abbrev pub decl_at : List Decl → ℕ → Decl
decl_at g x = slice_index_or g x no_decl

abbrev pub kind_at : List Decl → ℕ → Kind
kind_at g x = (decl_at g x).kind

abbrev pub name_at : List Decl → ℕ → List ℕ
name_at g x = (decl_at g x).name
