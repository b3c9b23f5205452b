use Rattle.std.proofs.Common.{◌≤◌, length}
use Rattle.std.specs.Prelude.{flat_map}
use Rattle.model_world.specs.World.{takes}
use Rattle.lasp_delta.specs.Seen.{delta_seen}
use Rattle.lasp_delta.proofs.SyncLaws.{HaveGone}
use Rattle.lasp_delta.proofs.run.deltas.DeltaRun.take_all.Given as goal

abbrev pub invariant-loop-p : goal.invariant-loop-p
invariant-loop-p g l = record {
  within : l.p ≤ length l.fn.self.driver.nodes.items;
  done : HaveGone (flat_map (takes (length l.fn.self.driver.nodes.items) l.i)) l.c (length l.fn.self.driver.nodes.items) (delta_seen g.N.Node.view g.N.Node.read l.fn.self) l.p (delta_seen g.N.Node.view g.N.Node.read l.self);
}
