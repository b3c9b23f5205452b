use Rattle.lasp_value.specs.Value.{val_of}
use Rattle.model_sets.proofs.ReadLaws.{row-found, row-none}
use Rattle.lasp_logset.proofs.passes.has_row_in.Goals as goal

pub returns-then-is_as : goal.returns-then-is_as
returns-then-is_as c = row-found (val_of c.args.value.now) c.args.dead c.loop-entry.left c.next.new.self c.args.rows c.in-Some.entry.now c.is_as.result c.in-Some.ensures.some c.is_as.ensures c.if-is_as.true c.loop-entry.invariant

pub returns : goal.returns
returns c = row-none (val_of c.args.value.now) c.args.dead c.loop-entry.left c.args.rows c.in_default.ensures.none c.loop-entry.invariant
