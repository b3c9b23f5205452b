use Rattle.lasp_live.specs.Mail.{plan_of}
use Rattle.lasp_live_run.specs.Posts.{AreMade, IsBehind}
use Rattle.lasp_live_run.proofs.posts.push_row.Given as goal

abbrev pub invariant-loop-p : goal.invariant-loop-p
invariant-loop-p l = record {
  made : AreMade (plan_of l.like) l.nodes l.q l.p l.boxes.items l.row.items l.ins.items;
  behind : IsBehind l.fn.boxes.items l.boxes.items;
}
