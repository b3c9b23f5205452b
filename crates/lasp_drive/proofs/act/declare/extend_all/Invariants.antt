use Rattle.std.proofs.Common.{◌≡◌, ◌≤◌, length, map}
use Rattle.std.specs.Arc.{arc_value}
use Rattle.lasp_graph.specs.Decl.{decl_of}
use Rattle.lasp_drive.proofs.PointLaws.{IsExtending}
use Rattle.lasp_drive.proofs.act.declare.extend_all.Given as goal

abbrev pub invariant-loop-p : goal.invariant-loop-p
invariant-loop-p g l = record {
  within : l.p ≤ length l.nodes.items;
  size : length l.nodes.items ≡ length l.fn.nodes.items;
  place : map g.N.Node.place l.nodes.items ≡ map g.N.Node.place l.fn.nodes.items;
  so_far : IsExtending l.p l.before (arc_value l.graph) (decl_of l.decl) (map g.N.Node.view l.fn.nodes.items) (map g.N.Node.view l.nodes.items);
}
