-- Declarations as plain data.
use Rattle.model_graph.specs.Graph as plain
use Rattle.lasp_graph.specs.declared.decl.Decl.{Decl}
use Rattle.lasp_graph.specs.Kind.{kind_of}

abbrev pub decl_of : Decl → plain.Decl
decl_of d = record { name = d.name; kind = kind_of d.kind }
