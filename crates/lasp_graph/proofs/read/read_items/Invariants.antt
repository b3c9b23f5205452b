use Rattle.std.proofs.Common.{◌≡◌, map, drop, []}
use Rattle.serde_json.specs.View.{view}
use Rattle.model_readings.specs.Graph.{decls_read}
use Rattle.lasp_graph.specs.Library.{library_of}
use Rattle.lasp_graph.proofs.read.read_items.Given as goal

abbrev pub invariant-loop-j : goal.invariant-loop-j
invariant-loop-j g l = decls_read (library_of l.lib) l.graph (map view (drop l.j-index l.items)) ≡ decls_read (library_of l.lib) [] (map view l.items)
