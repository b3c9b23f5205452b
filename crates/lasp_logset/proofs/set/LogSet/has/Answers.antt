use Rattle.lasp_value.specs.Value.{val_of}
use Rattle.lasp_logset.proofs.LiveLaws.{has-words}
use Rattle.lasp_logset.proofs.set.LogSet.has.Goals as goal

pub returns : goal.returns
returns c = has-words c.parts.result.0.now.entries c.args.self.now (val_of c.args.value.now) c.has_live.result c.parts.ensures.kept c.parts.ensures.apart c.has_live.ensures.some c.has_live.ensures.none
