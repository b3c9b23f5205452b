use Rattle.std.proofs.Common.{ℕ, subst}
use Rattle.std.specs.Arc.{arc_value}
use Rattle.lasp_core.specs.Reads.{read_of}
use Rattle.lasp_graph.specs.Library.{library_of}
use Rattle.lasp_drive.specs.Node.{NodeView}
use Rattle.lasp_drive.specs.Driver.{seen, Starts}
use Rattle.lasp_drive.proofs.PlayLaws.{may-play, may-begin}
use Rattle.lasp_node.specs.View.{node_of}
use Rattle.lasp_node.specs.declared.node.CoreNode.{CoreNode}
use Rattle.tests_runs.proofs.stretches.tell_stretch.Goals as goal

pub advance-driver-requires-clause-may : goal.advance-driver-requires-clause-may
advance-driver-requires-clause-may g c =
    let view : CoreNode → NodeView = λ n. node_of n.core n.sent in
    let d = seen view read_of c.in_ok-driver.driver in
    let script = c.args.script.now in
    may-begin (library_of c.args.lib.now) d script.commands (may-play (library_of c.args.lib.now) (arc_value c.args.graph.now) script d c.requires
    (subst (λ (many : ℕ). Starts (arc_value c.args.graph.now) many d) c.nodes.ensures c.in_ok-driver.ensures))
