use Rattle.std.proofs.Common.{◌∙◌}
use Rattle.lasp_value.specs.Value.{val_of}
use Rattle.lasp_logset.proofs.BeginLaws.{buried-next, buried-skip, buried-end}
use Rattle.lasp_logset.proofs.of_grown.bury_behind.Goals as goal

pub loop-entry-preserved-in_ok-add : goal.loop-entry-preserved-in_ok-add
loop-entry-preserved-in_ok-add c =
    buried-next (val_of c.args.value.now) c.loop-entry.delta c.add.new.self c.loop-entry.left c.next.new.self c.in-Some.entry.now c.in_ok-buried.field-0 c.is_of.result c.in-Some.ensures.some c.is_of.ensures c.if-is_of.true c.in_ok-buried.ensures
    c.in_ok-add.ensures.ok
    ∙ c.loop-entry.invariant

pub loop-entry-preserved : goal.loop-entry-preserved
loop-entry-preserved c =
    buried-skip (val_of c.args.value.now) c.loop-entry.delta c.loop-entry.left c.next.new.self c.in-Some.entry.now c.is_of.result c.in-Some.ensures.some c.is_of.ensures c.if-is_of.false ∙ c.loop-entry.invariant

pub returns : goal.returns
returns c = buried-end (val_of c.args.value.now) c.loop-entry.delta c.loop-entry.left c.in_default.ensures.none ∙ c.loop-entry.invariant
