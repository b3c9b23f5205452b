use Rattle.std.proofs.Common.{refl}
use Rattle.std.specs.Arc.{arc_value}
use Rattle.lasp_value.specs.Value.{val_of}
use Rattle.lasp_logset.proofs.GrownLaws.{buried-rows}
use Rattle.lasp_logset.proofs.orset.OrSet.bury_delta.Goals as goal

pub returns-in_ok-past-in-Whole : goal.returns-in_ok-past-in-Whole
returns-in_ok-past-in-Whole c =
    rw (← c.self.view_is, c.in-Whole.is)
    (buried-rows (val_of c.args.value.now) c.deref.result.now (arc_value c.in-Whole.set) c.in_ok-delta-in-Whole.delta c.in_ok-past-in-Whole.field-0 c.of_past.result c.deref.ensures c.in_ok-past-in-Whole.ensures c.of_past.ensures c.in_ok-delta-in-Whole.ensures.joined)

pub returns-in_ok-past-in-Past : goal.returns-in_ok-past-in-Past
returns-in_ok-past-in-Past c =
    rw (← c.self.view_is, c.in-Past.is)
    (buried-rows (val_of c.args.value.now) c.in-Past.grown c.in-Past.grown c.in_ok-delta-in-Past.delta c.in_ok-past-in-Past.field-0 c.of_past-in-Past.result refl c.in_ok-past-in-Past.ensures c.of_past-in-Past.ensures c.in_ok-delta-in-Past.ensures)
