use Rattle.std.proofs.Common.{◌≡◌, ◌<◌, List, length, Some, Err, subst, arith}
use Rattle.model_graph.specs.Evaluation.{first_large}
use Rattle.model_graph.specs.Graph.{Decl}
use Rattle.model_world.specs.World.{shown_at}
use Rattle.lasp_drive.specs.Node.{Settles}
use Rattle.lasp_drive.specs.declared.node.NodeStop.{NodeStop}
use Rattle.model_runs.proofs.StopLaws.{shown-low}
use Rattle.lasp_site.proofs.update.settled_state.Goals as goal

pub too_large-requires : goal.too_large-requires
too_large-requires g c =
    let large : first_large 0 (shown_at (g.N.Node.view c.args.node).decls (g.N.Node.view c.args.node).peer) ≡ Some c.in-Err-TooLarge.var =
    subst (λ (stop : NodeStop). Settles {A = Unit {0}} (first_large 0 (shown_at (g.N.Node.view c.args.node).decls (g.N.Node.view c.args.node).peer)) (Err stop)) c.in-Err-TooLarge.field-0-is c.in-Err-TooLarge.ensures.done in
    let low : c.in-Err-TooLarge.var < length c.args.graph.now =
    subst (λ (ds : List Decl). c.in-Err-TooLarge.var < length ds) c.requires.node.graph (shown-low (g.N.Node.view c.args.node).decls (g.N.Node.view c.args.node).peer c.in-Err-TooLarge.var large) in
    omega (arith, low, c.in-Err-TooLarge.var-is)
