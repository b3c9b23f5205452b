use Rattle.std.proofs.Common.{◌∙◌}
use Rattle.lasp_logset.proofs.PassLaws.{tell-ends, tell-goes}
use Rattle.lasp_logset.proofs.passes.is_raised.Goals as goal

pub returns-then-tells : goal.returns-then-tells
returns-then-tells c = tell-ends c.loop-entry.left c.next.new.self c.in-Some.entry.now c.args.name.now c.args.dead c.tells.result c.in-Some.ensures.some c.tells.ensures c.if-tells.true ∙ c.loop-entry.invariant

pub loop-entry-preserved : goal.loop-entry-preserved
loop-entry-preserved c = tell-goes c.loop-entry.left c.next.new.self c.in-Some.entry.now c.args.name.now c.args.dead c.tells.result c.in-Some.ensures.some c.tells.ensures c.if-tells.false ∙ c.loop-entry.invariant
