use Rattle.std.proofs.Common.{◌≡◌, length, map}
use Rattle.lasp_drive.specs.Node.{AreSettled, AreNodes}
use Rattle.tests_runs.proofs.nodes.tell_nodes.Given as goal

abbrev pub invariant-loop-p : goal.invariant-loop-p
invariant-loop-p g l = record {
  size : length l.nodes.items ≡ length l.fn.nodes.items;
  settled : AreSettled (map g.N.Node.view l.nodes.items);
  each : AreNodes l.graph (length l.fn.nodes.items) (map g.N.Node.view l.nodes.items);
}
