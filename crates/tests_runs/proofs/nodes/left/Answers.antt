use Rattle.std.proofs.Common.{length, map, sym, subst}
use Rattle.std.specs.Prelude.{List}
use Rattle.model_graph.specs.Graph.{Decl}
use Rattle.lasp_drive.specs.Node.{AreNodes}
use Rattle.tests_runs.proofs.nodes.left.Goals as goal

pub tell_nodes-requires-clause-graph : goal.tell_nodes-requires-clause-graph
tell_nodes-requires-clause-graph g c =
    let nodes = c.args.driver.nodes.items in
    subst (λ (ds : List Decl). AreNodes ds (length nodes) (map g.N.Node.view nodes)) (sym c.deref.ensures) c.requires.graph
