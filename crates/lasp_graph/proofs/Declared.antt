-- What a declaration that was read is, and what it means for those that follow.
use Rattle.std.proofs.Common.{◌≡◌, refl, Result, Ok, Err, IfOk, List, [], ◌∷◌, ◌++◌, length}
use Rattle.serde_json.specs.Data.{Data}
use Rattle.model_functions.specs.Library.{Library}
use Rattle.model_graph.specs.Graph.{Decl}
use Rattle.model_readings.specs.Graph.{next_read, decls_read}
use Rattle.model_readings.specs.Graph as plain
use Rattle.model_readings.specs.Lawful.{AreInputs, IsNext}
use Rattle.model_readings.proofs.Graphs.{kind-read}
use Rattle.model_readings.specs.declared.graph_why.GraphWhy.{GraphWhy}
use Rattle.lasp_graph.specs.declared.decl.Decl as rust
use Rattle.lasp_graph.specs.declared.kind.Kind as rust_kind
use Rattle.lasp_graph.specs.declared.refused.DeclRefused.{DeclRefused}
use Rattle.lasp_graph.specs.declared.refused.GraphRefused.{GraphRefused}
use Rattle.lasp_graph.specs.declared.refused.GraphRefused.TheVariants.{At, Memory}
use Rattle.lasp_graph.specs.Decl.{decl_of}
use Rattle.lasp_graph.specs.Kind.{kind_of}
use Rattle.lasp_graph.specs.Answers.{Answers, Fails, FailsAt}

pub decls_read-next : (lib : Library) (g : List Decl) (d : Data) (ds : List Data) (x : Decl) → next_read lib g d ≡ Ok x → decls_read lib g (d ∷ ds) ≡ decls_read lib (g ++ x ∷ []) ds
unfolding decls_read
decls_read-next lib g d ds x e = rw e refl

pub decls_read-stop : (lib : Library) (g : List Decl) (d : Data) (ds : List Data) (e : GraphRefused) → FailsAt (length g) e (next_read lib g d) → Fails e (decls_read lib g (d ∷ ds))
unfolding decls_read
decls_read-stop lib g d ds (At number why) is = rw (is.1, is.0) refl
decls_read-stop lib g d ds Memory is = tt

pub decls_read-end : (lib : Library) (g : List Decl) → decls_read lib g [] ≡ Ok g
unfolding decls_read
decls_read-end lib g = refl

pub kind_inputs : (lib : Library) (g : List Decl) (form : plain.Form) (r : Result rust_kind.Kind DeclRefused) → Answers kind_of r (plain.kind_read lib g form) → IfOk r (λ k. AreInputs g (kind_of k))
kind_inputs lib g form (Ok k) read = (kind-read lib g form (kind_of k) read).inputs
kind_inputs lib g form (Err e) read = tt

-- what is read, seen as it is, may stand behind a graph
pub next-of : (read : Result Decl GraphWhy) (r : Result rust.Decl DeclRefused) (g : List Decl) → ((d : Decl) → read ≡ Ok d → IsNext g d) → Answers decl_of r read → IfOk r (λ d. IsNext g (decl_of d))
next-of read (Ok d) g law is = law (decl_of d) is
next-of read (Err e) g law is = tt
