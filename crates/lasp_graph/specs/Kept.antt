-- How a graph is kept: its declarations under their names, in order, each with its width.
use Rattle.std.specs.Prelude.{◌≡◌, List, map, String, string_bytes}
use Rattle.std.specs.declared.alloc.Global.{Global}
use Rattle.model_graph.specs.Graph.{Decl}
use Rattle.model_graph.specs.Lawful.{widths}
use Rattle.model_readings.specs.Lawful.{IsGraph}
use Rattle.lasp_graph.specs.declared.graph.Declared.{Declared}
use Rattle.lasp_graph.specs.Decl.{decl_of}

abbrev pub Entry : Type 0
Entry = String Global × Declared

-- the declarations in order
abbrev pub decls_of : List Entry → List Decl
decls_of es = map (λ e. decl_of e.1.decl) es

-- each declaration stands under its name with its width, and together they are a graph
pub record IsKept (es : List Entry) : Type 0 where
  pub names : map (λ e. string_bytes e.0) es ≡ map (λ e. e.1.decl.name) es
  pub widths : map (λ e. e.1.width) es ≡ widths (decls_of es)
  pub graph : IsGraph (decls_of es)
