use Rattle.std.proofs.Common.{arith}
use Rattle.lasp_dots.proofs.RaiseLaws.{raised-all}
use Rattle.lasp_dots.proofs.counts.raise.Goals as goal

pub returns : goal.returns
returns c = raised-all c.loop-i.i c.args.counts.now.items c.args.others.now c.loop-i.counts.items c.requires (omega (arith, c.loop-i-test.false)) c.loop-i.invariant
