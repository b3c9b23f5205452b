use Rattle.std.proofs.Common.{◌≡◌, ◌++◌, ◌≤◌, length, drop, map}
use Rattle.std.specs.Prelude.{string_bytes}
use Rattle.model_world.specs.Report.{known_lines}
use Rattle.lasp_drive.specs.Nodes.{peers_of, AllLearn}
use Rattle.lasp_drive.proofs.report.push_nodes.Given as goal

abbrev pub invariant-loop-p : goal.invariant-loop-p
invariant-loop-p g l = record {
  within : l.p ≤ length l.nodes.items;
  size : length l.nodes.items ≡ length l.fn.nodes.items;
  place : map g.N.Node.place l.nodes.items ≡ map g.N.Node.place l.fn.nodes.items;
  learn : AllLearn (map g.N.Node.view l.fn.nodes.items) (map g.N.Node.view l.nodes.items);
  text : string_bytes l.text ++ known_lines l.p (drop l.p (peers_of (map g.N.Node.view l.fn.nodes.items))) ≡ string_bytes l.fn.text ++ known_lines 0 (peers_of (map g.N.Node.view l.fn.nodes.items));
}
