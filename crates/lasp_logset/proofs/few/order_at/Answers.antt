use Rattle.std.proofs.Common.{slice_get}
use Rattle.lasp_value.specs.Value.{val_of}
use Rattle.lasp_logset.proofs.FewLaws.{held-order}
use Rattle.lasp_logset.proofs.few.order_at.Goals as goal

pub returns-in-Some : goal.returns-in-Some
returns-in-Some c = λ equal.
    held-order (slice_get c.args.rows.now.entries c.args.place) c.in-Some.name.now c.in-Some.field-0-1.now (val_of c.value.result.now) (val_of c.args.value.now) c.compare_values.result c.in-Some.ensures.entry c.compare_values.ensures c.value.ensures equal
