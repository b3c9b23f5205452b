use Rattle.std.proofs.Common.{◌≡◌, Some, Err, subst}
use Rattle.std.specs.Arc.{arc_value}
use Rattle.model_graph.specs.Evaluation.{first_large}
use Rattle.model_world.specs.World.{delivered}
use Rattle.model_runs.proofs.PartLaws.{brings-equal}
use Rattle.lasp_drive.specs.Node.{Delivers}
use Rattle.lasp_drive.specs.declared.node.NodeStop.{NodeStop}
use Rattle.lasp_run.proofs.JoinLaws.{replica-sent, replica-joined, large-low}
use Rattle.lasp_run.proofs.merge.join.take.Goals as goal

pub deliver-requires-clause-sent : goal.deliver-requires-clause-sent
deliver-requires-clause-sent g c =
    replica-sent c.args.graph.now (g.N.Node.view c.args.node) (arc_value c.args.message.now) c.requires.node c.requires.taken c.requires.message

pub deliver-requires-clause-part : goal.deliver-requires-clause-part
deliver-requires-clause-part g c = brings-equal c.deref.ensures

pub returns-in-Ok-clause-node : goal.returns-in-Ok-clause-node
returns-in-Ok-clause-node g c =
    replica-joined c.args.graph.now (g.N.Node.view c.args.node) (g.N.Node.view c.deliver.new.self) (arc_value c.args.message.now) c.requires.node c.requires.taken c.requires.message c.in-Ok.ensures.takes.still c.in-Ok.ensures.done.0 c.in-Ok.ensures.done.1

pub too_large-requires : goal.too_large-requires
too_large-requires g c =
    let after = delivered (g.N.Node.view c.args.node).decls (arc_value c.args.message.now) (g.N.Node.view c.args.node).peer in
    let large : first_large 0 after.contents ≡ Some c.in-Err-TooLarge.var =
    subst (λ (stop : NodeStop). Delivers {A = Unit {0}} after (Err stop) (g.N.Node.view c.deliver.new.self).peer) c.in-Err-TooLarge.field-0-is c.in-Err-TooLarge.ensures.done in
    large-low c.args.graph.now (g.N.Node.view c.args.node) (arc_value c.args.message.now) c.in-Err-TooLarge.var c.requires.node large
