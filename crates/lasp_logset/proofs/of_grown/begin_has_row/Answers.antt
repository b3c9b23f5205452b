use Rattle.lasp_value.specs.Value.{val_of}
use Rattle.lasp_logset.proofs.BeginLaws.{no-row}
use Rattle.lasp_logset.proofs.of_grown.begin_has_row.Goals as goal

pub returns-in-None : goal.returns-in-None
returns-in-None c = rw c.in-None.is (no-row (val_of c.args.value.now) c.args.dead)
