-- What a declaration needs of the declarations before it and of the library.
use Rattle.std.specs.Prelude.{◌≡◌, ◌⊎◌, ℕ, List, IsTrue, IsFalse}
use Rattle.model_functions.specs.Library.{Library}
use Rattle.model_graph.specs.Graph.{Decl, is_set}
use Rattle.model_readings.specs.Graph.{Form, orset, gset, counter, maxreg, union, product, intersection, map, filter, fold}
use Rattle.model_readings.specs.declared.graph_why.GraphWhy.{GraphWhy}
use Rattle.model_readings.specs.declared.graph_why.GraphWhy.TheVariants as why
use Rattle.model_scripts.specs.Needs.{IsDeclared}
use Rattle.model_program.specs.Named.{IsNamed, IsStored}

-- the form takes the variable of this name as an input
abbrev pub Takes : Form → List ℕ → Type 0
Takes orset name = ⊥
Takes gset name = ⊥
Takes counter name = ⊥
Takes maxreg name = ⊥
Takes (union x y) name = (name ≡ x) ⊎ (name ≡ y)
Takes (product x y) name = (name ≡ x) ⊎ (name ≡ y)
Takes (intersection x y) name = (name ≡ x) ⊎ (name ≡ y)
Takes (map x f) name = name ≡ x
Takes (filter x p) name = name ≡ x
Takes (fold x op l) name = name ≡ x

-- each of these names is declared
abbrev pub AreDeclared : List Decl → (List ℕ → Type 0) → Type 0
AreDeclared before names = (x : List ℕ) → names x → IsDeclared before x

-- one of these names is not declared
pub record IsUndeclared (before : List Decl) (names : List ℕ → Type 0) : Type 0 where
  pub input : List ℕ
  pub taken : names input
  pub absent : ¬ IsDeclared before input

-- each of these names is that of a set
abbrev pub AreSets : List Decl → (List ℕ → Type 0) → Type 0
AreSets before names = (x : List ℕ) (decl : Decl) → names x → IsNamed before x decl → IsTrue (is_set decl.kind)

-- one of these names is that of a variable which isn't a set
pub record IsNoSet (before : List Decl) (names : List ℕ → Type 0) : Type 0 where
  pub input : List ℕ
  pub decl : Decl
  pub taken : names input
  pub named : IsNamed before input decl
  pub kind : IsFalse (is_set decl.kind)

-- the library has the function that the form applies, if it applies one
abbrev pub HasFunction : Library → Form → Type 0
HasFunction lib (map x f) = IsStored lib.maps f
HasFunction lib (filter x p) = IsStored lib.predicates p
HasFunction lib (fold x op l) = IsStored lib.lifts l
HasFunction lib _ = Unit {0}

-- the causes for which one declaration is refused
abbrev pub IsDeclarationCause : GraphWhy → Type 0
IsDeclarationCause why.Shape = Unit {0}
IsDeclarationCause why.NameShape = Unit {0}
IsDeclarationCause why.NameTaken = Unit {0}
IsDeclarationCause why.UnknownInput = Unit {0}
IsDeclarationCause why.WrongKind = Unit {0}
IsDeclarationCause why.UnknownFunction = Unit {0}
IsDeclarationCause why.TooWide = Unit {0}
IsDeclarationCause _ = ⊥
