use Rattle.std.proofs.Common.{◌≡◌}
use Rattle.std.specs.Arc.{arc_value}
use Rattle.lasp_live.specs.Fed.{IsAt}
use Rattle.lasp_live.specs.Steady.{MayFeed, setting}
use Rattle.lasp_live.proofs.commands.wait.Given as goal

abbrev pub invariant-loop : goal.invariant-loop
invariant-loop g l = record {
  place : g.F.Feeder.place l.f ≡ g.F.Feeder.place l.fn.f;
  frame : g.F.Feeder.frame l.f ≡ g.F.Feeder.frame l.fn.f;
  may : MayFeed (setting (arc_value l.graph) (arc_value l.script) l.me) l.boxes l.outs l.ins.items;
  at : IsAt (setting (arc_value l.graph) (arc_value l.script) l.me) l.i (g.F.Feeder.seen l.f) l.log l.outs l.ins.items;
}
