use Rattle.std.proofs.Common.{◌∙◌, sym, ap, ◌+◌, map, drop, arith}
use Rattle.serde_json.specs.View.{view}
use Rattle.model_readings.specs.Graph.{decls_read}
use Rattle.lasp_graph.specs.Decl.{decl_of}
use Rattle.lasp_graph.specs.Library.{library_of}
use Rattle.lasp_graph.proofs.Items.{next_item, no_item}
use Rattle.lasp_graph.proofs.Declared.{decls_read-next, decls_read-stop, decls_read-end}
use Rattle.lasp_graph.proofs.read.read_items.Goals as goal

pub returns-in-Err : goal.returns-in-Err
returns-in-Err g c =
    let whole = ap (decls_read (library_of c.args.lib.now) c.loop-j.graph) (sym (next_item c.args.items.now c.loop-j.j-index c.j-item.result c.loop-j-test.true c.j-item.is)) ∙ c.loop-j.invariant in
    rw (← whole)
    (decls_read-stop (library_of c.args.lib.now) c.loop-j.graph (view c.j-item.result) (map view (drop (c.loop-j.j-index + 1) c.args.items.now)) c.in-Err.refused c.in-Err.ensures.exact)

pub loop-j-preserved : goal.loop-j-preserved
loop-j-preserved g c =
    rw c.in_ok-push-in-Ok.ensures.ok
    (sym (decls_read-next (library_of c.args.lib.now) c.loop-j.graph (view c.j-item.result) (map view (drop (c.loop-j.j-index + 1) c.args.items.now)) (decl_of c.in-Ok.decl) c.in-Ok.ensures.exact)
    ∙ ap (decls_read (library_of c.args.lib.now) c.loop-j.graph) (sym (next_item c.args.items.now c.loop-j.j-index c.j-item.result c.loop-j-test.true c.j-item.is))
    ∙ c.loop-j.invariant)

pub returns : goal.returns
returns g c =
    sym c.loop-j.invariant ∙ ap (decls_read (library_of c.args.lib.now) c.loop-j.graph) (no_item c.args.items.now c.loop-j.j-index (omega arith)) ∙ decls_read-end (library_of c.args.lib.now) c.loop-j.graph
