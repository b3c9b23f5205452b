-- What stands under a name, in the words of membership.
use Rattle.std.specs.Prelude.{◌≡◌, ℕ, ◌≤◌, List, Some, slice_get}
use Rattle.model_graph.specs.Graph.{Decl}

-- this is the first declaration that has the name
pub record IsNamed (g : List Decl) (name : List ℕ) (decl : Decl) : Type 0 where
  pub place : ℕ
  pub at : slice_get g place ≡ Some decl
  pub name_is : decl.name ≡ name
  pub first : (i : ℕ) (e : Decl) → slice_get g i ≡ Some e → e.name ≡ name → place ≤ i

-- one of the functions has the name
pub record IsStored {A : Type 0} (functions : List (List ℕ × A)) (name : List ℕ) : Type 0 where
  pub place : ℕ
  pub function : List ℕ × A
  pub at : slice_get functions place ≡ Some function
  pub name_is : function.0 ≡ name
