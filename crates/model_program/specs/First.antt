-- Reading items one after the other, each against those read before it, up to the first that is refused.
use Rattle.std.specs.Prelude.{◌≡◌, ℕ, List, [], ◌∷◌, ◌++◌, length, Result, Ok, Err}
use Rattle.serde_json.specs.Data.{Data}
use Rattle.model_functions.specs.Library.{Library}
use Rattle.model_graph.specs.Graph.{Decl}
use Rattle.model_readings.specs.Graph as graph
use Rattle.model_readings.specs.declared.graph_why.GraphWhy.{GraphWhy}

-- what these items are stands behind those before them, each accepted where it stands
pub data AreRead {D A E : Type 0} (read : List A → D → Result A E) : List A → List D → List A → Type 0 where
  none : {before : List A} → AreRead read before [] before
  more : {before all : List A} {d : D} {ds : List D} {a : A} → read before d ≡ Ok a → AreRead read (before ++ a ∷ []) ds all → AreRead read before (d ∷ ds) all

-- items are refused at one of them: those before it are accepted, it is refused behind them, and they tell its number
pub record IsRefused {D A E : Type 0} (reader : List A → D → Result A E) (number_of : List A → ℕ) (before : List A) (ds : List D) (number : ℕ) (why : E) : Type 0 where
  pub good : List D
  pub bad : D
  pub rest : List D
  pub all : List A
  pub items : good ++ bad ∷ rest ≡ ds
  pub read : AreRead reader before good all
  pub number_is : number_of all ≡ number
  pub refused : reader all bad ≡ Err why

-- the declarations of these trees
abbrev pub AreDecls : Library → List Decl → List Data → List Decl → Type 0
AreDecls lib = AreRead (graph.next_read lib)

-- a graph is refused at a declaration; the first one is number 0
abbrev pub IsRefusedDecl : Library → List Decl → List Data → ℕ → GraphWhy → Type 0
IsRefusedDecl lib = IsRefused (graph.next_read lib) length
