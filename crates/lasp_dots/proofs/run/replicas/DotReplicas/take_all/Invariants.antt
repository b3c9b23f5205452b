use Rattle.std.proofs.Common.{◌≡◌, ◌≤◌, length}
use Rattle.std.specs.Prelude.{flat_map}
use Rattle.std.specs.List.{range_with_len}
use Rattle.model_world.specs.World.{takes}
use Rattle.model_dots.specs.DotWorld.{dot_each}
use Rattle.lasp_dots.proofs.run.replicas.DotReplicas.take_all.Given as goal

abbrev pub invariant-loop-p : goal.invariant-loop-p
invariant-loop-p l = record {
  within : l.p ≤ length l.fn.self.nodes;
  size : length l.self.nodes ≡ length l.fn.self.nodes;
  sent : length l.self.sent ≡ length l.fn.self.sent;
  done : l.self ≡ dot_each l.fn.self (flat_map (takes (length l.fn.self.nodes) l.i) (range_with_len 0 l.p));
}
