use Rattle.lasp_value.specs.Value.{val_of}
use Rattle.lasp_logset.proofs.BeginLaws.{buried-empty}
use Rattle.lasp_logset.proofs.of_grown.bury_begin.Goals as goal

pub returns-in-None : goal.returns-in-None
returns-in-None c = rw c.in-None.is (λ u t. buried-empty (val_of c.args.value.now) u t c.new.result c.new.ensures)
