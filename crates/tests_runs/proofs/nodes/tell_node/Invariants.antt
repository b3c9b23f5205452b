use Rattle.lasp_drive.specs.Node.{Learns}
use Rattle.tests_runs.proofs.nodes.tell_node.Given as goal

abbrev pub invariant-loop-x : goal.invariant-loop-x
invariant-loop-x g l = record {
  learned : Learns (g.N.Node.view l.fn.node) (g.N.Node.view l.node);
}
