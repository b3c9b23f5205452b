use Rattle.std.proofs.Common.{◌≡◌}
use Rattle.std.specs.Arc.{arc_value}
use Rattle.lasp_live.specs.Mail.{plan_of}
use Rattle.lasp_live_run.specs.Posts.{AreRowsMade}
use Rattle.lasp_live_run.proofs.posts.fresh_posts.Given as goal

abbrev pub invariant-loop-q : goal.invariant-loop-q
invariant-loop-q l = record {
  like : plan_of l.like ≡ (arc_value l.graph, arc_value l.script);
  rows : AreRowsMade (arc_value l.graph, arc_value l.script) l.nodes l.q l.boxes.items l.outs.items l.ins.items;
}
