use Rattle.std.proofs.Common.{sym, ◌∙◌, arith}
use Rattle.lasp_delta.proofs.JoinLaws.{gap-here, gap-next}
use Rattle.lasp_delta.proofs.application.check_gap.Goals as goal

pub returns-then-have-need : goal.returns-then-have-need
returns-then-have-need c =
    sym c.loop-i.invariant ∙ gap-here c.args.counts.now c.args.from.now c.loop-i.i c.at-have.result c.at-need.result c.at-have.ensures c.at-need.ensures (omega (arith, c.if-have-need.true))

pub loop-i-preserved : goal.loop-i-preserved
loop-i-preserved c =
    gap-next c.args.counts.now c.args.from.now c.loop-i.i c.at-have.result c.at-need.result c.at-have.ensures c.at-need.ensures (omega (arith, c.if-have-need.false)) ∙ c.loop-i.invariant
