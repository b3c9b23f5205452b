use Rattle.std.proofs.Common.{◌+◌, ◌≤◌, length, drop}
use Rattle.lasp_graph.specs.Library.{library_of}
use Rattle.lasp_delta.specs.Seen.{delta_seen}
use Rattle.lasp_delta.specs.Play.{GoesOn}
use Rattle.lasp_delta.proofs.run.deltas.DeltaRun.play.Given as goal

abbrev pub invariant-loop-i : goal.invariant-loop-i
invariant-loop-i g l = record {
  within : l.i ≤ length l.script.commands;
  way : GoesOn (library_of l.lib) (l.i + 1) (delta_seen g.N.Node.view g.N.Node.read l.fn.self) (delta_seen g.N.Node.view g.N.Node.read l.self) l.script.commands (drop l.i l.script.commands);
}
