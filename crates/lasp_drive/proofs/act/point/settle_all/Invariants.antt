use Rattle.std.proofs.Common.{◌≡◌, ◌≤◌, length, map}
use Rattle.lasp_drive.proofs.PointLaws.{IsSettling}
use Rattle.lasp_drive.proofs.act.point.settle_all.Given as goal

abbrev pub invariant-loop-p : goal.invariant-loop-p
invariant-loop-p g l = record {
  within : l.p ≤ length l.nodes.items;
  size : length l.nodes.items ≡ length l.fn.nodes.items;
  place : map g.N.Node.place l.nodes.items ≡ map g.N.Node.place l.fn.nodes.items;
  so_far : IsSettling l.c l.p l.graph (map g.N.Node.view l.fn.nodes.items) (map g.N.Node.view l.nodes.items);
}
