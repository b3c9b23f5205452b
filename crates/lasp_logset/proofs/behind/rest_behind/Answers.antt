use Rattle.lasp_logset.proofs.BehindLaws.{abreast-next, abreast-last}
use Rattle.lasp_logset.proofs.behind.rest_behind.Goals as goal

pub loop-entry-preserved : goal.loop-entry-preserved
loop-entry-preserved c = abreast-next c.args.log.now.items c.args.other.now.items c.loop-entry.left c.next.new.self c.loop-entry.rest c.goes_on_by.new.rest c.in-Some.entry.now c.in-Some.ensures.some (c.goes_on_by.ensures c.if-not-goes_on_by.false) c.loop-entry.invariant

pub returns : goal.returns
returns c = abreast-last c.args.log.now.items c.args.other.now.items c.loop-entry.left c.loop-entry.rest c.in_default.ensures.none c.loop-entry.invariant
