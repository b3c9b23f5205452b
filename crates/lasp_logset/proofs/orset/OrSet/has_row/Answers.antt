use Rattle.std.proofs.Common.{refl}
use Rattle.std.specs.Arc.{arc_value}
use Rattle.lasp_value.specs.Value.{val_of}
use Rattle.lasp_logset.proofs.LiveLaws.{has_row-log}
use Rattle.lasp_logset.proofs.orset.OrSet.has_row.Goals as goal

pub returns-in-Whole : goal.returns-in-Whole
returns-in-Whole c = rw (← c.self.view_is, c.in-Whole.is) (has_row-log (arc_value c.in-Whole.set) c.deref.result.now (val_of c.args.value.now) c.args.dead c.has_row.result c.deref.ensures c.has_row.ensures)

pub returns-in-Past : goal.returns-in-Past
returns-in-Past c = rw (← c.self.view_is, c.in-Past.is) (has_row-log c.in-Past.grown c.in-Past.grown (val_of c.args.value.now) c.args.dead c.has_row-in-Past.result refl c.has_row-in-Past.ensures)
