use Rattle.std.proofs.Common.{ap}
use Rattle.lasp_value.specs.Value.{val_of}
use Rattle.lasp_state.specs.State.{content_of}
use Rattle.lasp_state.proofs.ThresholdLaws.{set-has}
use Rattle.lasp_state.proofs.threshold.has.Goals as goal

pub returns-in-Set : goal.returns-in-Set
returns-in-Set c = set-has c.has_row.result c.args.dead (content_of c.args.s.now) c.in-Set.set (val_of c.args.value.now) (ap content_of c.in-Set.is) c.has_row.ensures

pub returns-in-Fold : goal.returns-in-Fold
returns-in-Fold c = set-has c.has_row-in-Fold.result c.args.dead (content_of c.args.s.now) c.in-Fold.set (val_of c.args.value.now) (ap content_of c.in-Fold.is) c.has_row-in-Fold.ensures
