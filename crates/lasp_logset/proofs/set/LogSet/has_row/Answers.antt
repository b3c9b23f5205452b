use Rattle.lasp_value.specs.Value.{val_of}
use Rattle.lasp_logset.proofs.LiveLaws.{has_row-words}
use Rattle.lasp_logset.proofs.set.LogSet.has_row.Goals as goal

pub returns : goal.returns
returns c = has_row-words c.first_places.result.0.now.entries c.args.self.now (val_of c.args.value.now) c.args.dead c.has_row_of.result c.first_places.ensures.state c.has_row_of.ensures
