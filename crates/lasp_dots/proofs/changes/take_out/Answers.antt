use Rattle.std.proofs.Common.{◌∙◌}
use Rattle.lasp_value.specs.Value.{val_of}
use Rattle.lasp_dots.proofs.PartLaws.{on_ok}
use Rattle.lasp_dots.specs.Places.{is_before, is_within}
use Rattle.lasp_dots.proofs.PlaceLaws.{down-before, down-within, before-within, parted, taken-out}
use Rattle.lasp_dots.proofs.changes.take_out.Goals as goal

pub take_between-requires-clause-from : goal.take_between-requires-clause-from
take_between-requires-clause-from c = parted (is_before (val_of c.args.value.now)) (down-before (val_of c.args.value.now)) c.args.dots.now c.requires

pub take_between-requires-clause-to : goal.take_between-requires-clause-to
take_between-requires-clause-to c = parted (is_within (val_of c.args.value.now)) (down-within (val_of c.args.value.now)) c.args.dots.now c.requires

pub take_between-requires-clause-order : goal.take_between-requires-clause-order
take_between-requires-clause-order c = before-within (val_of c.args.value.now) c.args.dots.now

pub returns-clause-ok : goal.returns-clause-ok
returns-clause-ok c = on_ok c.take_between.result (λ e. e ∙ taken-out (val_of c.args.value.now) c.args.dots.now c.requires) c.take_between.ensures.ok
