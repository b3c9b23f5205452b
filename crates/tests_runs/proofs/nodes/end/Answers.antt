use Rattle.std.proofs.Common.{ℕ, map, subst}
use Rattle.std.proofs.lemmas.List.{length-map}
use Rattle.std.specs.Arc.{arc_value}
use Rattle.lasp_core.specs.Reads.{read_of}
use Rattle.lasp_drive.specs.Node.{NodeView, AreNodes}
use Rattle.lasp_drive.specs.Driver.{seen}
use Rattle.lasp_drive.specs.Run.{Ends}
use Rattle.lasp_node.specs.View.{node_of}
use Rattle.lasp_node.specs.declared.node.CoreNode.{CoreNode}
use Rattle.tests_runs.proofs.nodes.end.Goals as goal

pub left-requires-clause-settled : goal.left-requires-clause-settled
left-requires-clause-settled g c =
    let view : CoreNode → NodeView = λ n. node_of n.core n.sent in
    let ends : Ends (arc_value c.args.graph.now) c.args.script.now (seen view read_of c.in-Ok.driver) = c.in-Ok.ensures in
    ends.settled

pub left-requires-clause-graph : goal.left-requires-clause-graph
left-requires-clause-graph g c =
    let view : CoreNode → NodeView = λ n. node_of n.core n.sent in
    let ends : Ends (arc_value c.args.graph.now) c.args.script.now (seen view read_of c.in-Ok.driver) = c.in-Ok.ensures in
    subst (λ (many : ℕ). AreNodes (arc_value c.in-Ok.driver.graph) many (map view c.in-Ok.driver.nodes.items)) (length-map c.in-Ok.driver.nodes.items view) ends.ready.nodes
