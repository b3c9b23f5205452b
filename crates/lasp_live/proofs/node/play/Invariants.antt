use Rattle.std.proofs.Common.{◌≡◌, ◌≤◌, length}
use Rattle.std.specs.Arc.{arc_value}
use Rattle.lasp_live.specs.Fed.{IsAt}
use Rattle.lasp_live.specs.Steady.{MayFeed, setting}
use Rattle.lasp_live.proofs.node.play.Given as goal

abbrev pub invariant-loop-i : goal.invariant-loop-i
invariant-loop-i g l = record {
  within : l.i ≤ length (arc_value l.script).commands;
  place : g.F.Feeder.place l.f ≡ g.F.Feeder.place l.fn.f;
  frame : g.F.Feeder.frame l.f ≡ g.F.Feeder.frame l.fn.f;
  may : MayFeed (setting (arc_value l.graph) (arc_value l.script) l.me) l.boxes l.outs.items l.ins.items;
  at : IsAt (setting (arc_value l.graph) (arc_value l.script) l.me) l.i (g.F.Feeder.seen l.f) l.log l.outs.items l.ins.items;
}
