use Rattle.std.proofs.Common.{ap, ◌∙◌}
use Rattle.std.specs.Prelude.{List}
use Rattle.std.specs.Arc.{arc_value}
use Rattle.model_graph.specs.Graph.{Decl}
use Rattle.lasp_core.specs.Core.{fresh_core}
use Rattle.lasp_node.proofs.CallLaws.{fresh-node}
use Rattle.lasp_node.proofs.node.CoreNodeFreshNode.new.Goals as goal

pub returns : goal.returns
returns c =
    fresh-node (arc_value c.args.graph.now) c.args.replica c.args.nodes _ (c.in_ok-new.ensures ∙ ap (λ (g : List Decl). fresh_core g c.args.replica c.args.nodes) c.in_ok-share.ensures)
