use Rattle.std.proofs.Common.{◌≤◌, map}
use Rattle.std.specs.Arc.{arc_value}
use Rattle.lasp_drive.specs.Node.{AreFresh}
use Rattle.lasp_drive.proofs.driver.fresh_nodes.Given as goal

abbrev pub invariant-loop-p : goal.invariant-loop-p
invariant-loop-p g l = record {
  within : l.p ≤ l.nodes;
  fresh : AreFresh (arc_value l.graph) l.nodes l.p (map g.N.Node.view l.all.items);
}
