use Rattle.std.proofs.Common.{arith}
use Rattle.lasp_delta.proofs.JoinLaws.{larger-end}
use Rattle.lasp_delta.proofs.application.larger_counts.Goals as goal

pub returns : goal.returns
returns c = larger-end c.args.counts.now c.args.others.now c.loop-i.all c.loop-i.i c.requires (omega (arith, c.loop-i-test.false, c.len-i-end.ensures)) c.loop-i.invariant
