use Rattle.lasp_value.specs.Value.{val_of}
use Rattle.lasp_logset.proofs.PlaceLaws.{row-here}
use Rattle.lasp_logset.proofs.places.is_row_at.Goals as goal

pub returns-in-Some-clause-of : goal.returns-in-Some-clause-of
returns-in-Some-clause-of c = (row-here c.args.rows.now.entries c.args.place c.in-Some.name.now c.in-Some.field-0-1.now (val_of c.args.value.now) c.is_of.result c.in-Some.ensures.entry c.is_of.ensures).0

pub returns-in-Some-clause-other : goal.returns-in-Some-clause-other
returns-in-Some-clause-other c = (row-here c.args.rows.now.entries c.args.place c.in-Some.name.now c.in-Some.field-0-1.now (val_of c.args.value.now) c.is_of.result c.in-Some.ensures.entry c.is_of.ensures).1
