use Rattle.std.proofs.Common.{◌∙◌}
use Rattle.lasp_live.proofs.TakeLaws.{more-chain}
use Rattle.lasp_live.proofs.takes.take_round.Goals as goal

pub loop-q-preserved : goal.loop-q-preserved
loop-q-preserved g c = record {
  place = c.take_one.ensures.place ∙ c.loop-q.invariant.place;
  frame = c.take_one.ensures.frame ∙ c.loop-q.invariant.frame;
  may = c.take_one.ensures.may;
  hears = c.in-Ok.ensures.hears;
  more = more-chain (g.F.Feeder.seen c.args.f.now) (g.F.Feeder.seen c.loop-q.f) (g.F.Feeder.seen c.take_one.new.f) c.loop-q.invariant.more c.in-Ok.ensures.more;
}
