-- Graphs are read by one reader of declarations after the other.
use Rattle.std.proofs.Common.{refl, sym, ◌∙◌}
use Rattle.std.specs.Prelude.{◌≡◌, ◌↔◌, ℕ, List, [], ◌∷◌, ◌++◌, length, Ok, Err}
use Rattle.serde_json.specs.Data.{Data}
use Rattle.model_functions.specs.Library.{Library}
use Rattle.model_graph.specs.Graph.{Decl}
use Rattle.model_readings.specs.Graph.{numbered, decls_read}
use Rattle.model_readings.specs.Graph as graph
use Rattle.model_readings.specs.declared.graph_why.GraphWhy.{GraphWhy}
use Rattle.model_program.specs.First.{AreDecls, IsRefusedDecl}
use Rattle.model_program.proofs.FirstLaws.{all_read, refused-found, refused-is, accepted-found, accepted-is}
use Rattle.model_world.proofs.FollowLaws.{bind-alike}

decls-all_read : (lib : Library) (before : List Decl) (ds : List Data) → decls_read lib before ds ≡ all_read (graph.next_read lib) length before ds
unfolding decls_read all_read
decls-all_read lib before [] = refl
decls-all_read lib before (d ∷ ds) = bind-alike (numbered (length before) (graph.next_read lib before d)) _ _ (λ decl. decls-all_read lib (before ++ decl ∷ []) ds)

pub decls-refused : (lib : Library) (ds : List Data) (number : ℕ) (why : GraphWhy) → (decls_read lib [] ds ≡ Err (number, why) ↔ IsRefusedDecl lib [] ds number why)
decls-refused lib ds number why = (
  λ e. refused-found (graph.next_read lib) length [] ds number why (sym (decls-all_read lib [] ds) ∙ e),
  λ r. decls-all_read lib [] ds ∙ refused-is (graph.next_read lib) length [] ds number why r,
)

pub decls-accepted : (lib : Library) (ds : List Data) (all : List Decl) → (decls_read lib [] ds ≡ Ok all ↔ AreDecls lib [] ds all)
decls-accepted lib ds all = (
  λ e. accepted-found (graph.next_read lib) length [] ds all (sym (decls-all_read lib [] ds) ∙ e),
  λ r. decls-all_read lib [] ds ∙ accepted-is (graph.next_read lib) length [] ds all r,
)
