use Rattle.std.proofs.Common.{◌≡◌}
use Rattle.std.specs.Arc.{arc_value}
use Rattle.lasp_live.specs.Fed.{HaveEnded, Hears, HearsMore}
use Rattle.lasp_live.specs.Steady.{MayHear, setting}
use Rattle.lasp_live.proofs.takes.take_all.Given as goal

abbrev pub invariant-loop : goal.invariant-loop
invariant-loop g l = record {
  place : g.F.Feeder.place l.f ≡ g.F.Feeder.place l.fn.f;
  frame : g.F.Feeder.frame l.f ≡ g.F.Feeder.frame l.fn.f;
  may : MayHear (setting (arc_value l.graph) (arc_value l.script) l.me) l.boxes l.ins.items;
  hears : Hears (setting (arc_value l.graph) (arc_value l.script) l.me) (g.F.Feeder.seen l.f) l.own l.ended.items l.ins.items;
  more : HearsMore (g.F.Feeder.seen l.fn.f) (g.F.Feeder.seen l.f);
  still : HaveEnded (setting (arc_value l.graph) (arc_value l.script) l.me) l.fn.ended.items
      → (g.F.Feeder.seen l.f ≡ g.F.Feeder.seen l.fn.f) × HaveEnded (setting (arc_value l.graph) (arc_value l.script) l.me) l.ended.items;
}
