use Rattle.std.proofs.Common.{◌≡◌, ◌++◌, ◌≤◌, length, drop}
use Rattle.std.specs.Prelude.{string_bytes}
use Rattle.model_world.specs.World.{shown_at}
use Rattle.model_program.specs.Merge.{value_lines}
use Rattle.lasp_drive.specs.Node.{Learns}
use Rattle.lasp_run.proofs.merge.text.push_values.Given as goal

abbrev pub invariant-loop-x : goal.invariant-loop-x
invariant-loop-x g l = record {
  within : l.x ≤ length l.graph;
  learned : Learns (g.N.Node.view l.fn.node) (g.N.Node.view l.node);
  text : string_bytes l.text ++ value_lines l.x (drop l.x l.graph) (shown_at l.graph (g.N.Node.view l.fn.node).peer)
      ≡ string_bytes l.fn.text ++ value_lines 0 l.graph (shown_at l.graph (g.N.Node.view l.fn.node).peer);
}
