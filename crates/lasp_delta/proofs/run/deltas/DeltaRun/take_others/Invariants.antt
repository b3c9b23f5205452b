use Rattle.std.proofs.Common.{◌≤◌, length}
use Rattle.lasp_drive.proofs.ActLaws.{takes_of}
use Rattle.lasp_delta.specs.Seen.{delta_seen}
use Rattle.lasp_delta.proofs.SyncLaws.{HaveGone}
use Rattle.lasp_delta.proofs.run.deltas.DeltaRun.take_others.Given as goal

abbrev pub invariant-loop-q : goal.invariant-loop-q
invariant-loop-q g l = record {
  within : l.q ≤ length l.fn.self.driver.nodes.items;
  done : HaveGone (takes_of l.i l.p) l.c (length l.fn.self.driver.nodes.items) (delta_seen g.N.Node.view g.N.Node.read l.fn.self) l.q (delta_seen g.N.Node.view g.N.Node.read l.self);
}
