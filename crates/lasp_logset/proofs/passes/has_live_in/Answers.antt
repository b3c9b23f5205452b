use Rattle.lasp_value.specs.Value.{val_of}
use Rattle.lasp_logset.proofs.PassLaws.{found-live, none-lives, sought-more}
use Rattle.lasp_logset.proofs.passes.has_live_in.Goals as goal

pub returns-then-is_live_of : goal.returns-then-is_live_of
returns-then-is_live_of c = found-live c.args.log.now.items c.loop-entry.left c.next.new.self c.in-Some.entry.now (val_of c.args.value.now) c.is_live_of.result c.in-Some.ensures.some c.is_live_of.ensures c.if-is_live_of.true c.loop-entry.invariant

pub loop-entry-preserved : goal.loop-entry-preserved
loop-entry-preserved c = sought-more c.args.log.now.items c.loop-entry.left c.next.new.self c.in-Some.entry.now (val_of c.args.value.now) c.is_live_of.result c.in-Some.ensures.some c.is_live_of.ensures c.if-is_live_of.false c.loop-entry.invariant

pub returns : goal.returns
returns c = none-lives c.args.log.now.items c.loop-entry.left (val_of c.args.value.now) c.in_default.ensures.none c.loop-entry.invariant
