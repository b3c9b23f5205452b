use Rattle.lasp_logset.proofs.WholeLaws.{known-covers}
use Rattle.lasp_logset.proofs.asked.Asked.covers.Goals as goal

pub returns-in-Behind : goal.returns-in-Behind
returns-in-Behind c = rw (← c.self.view_is, c.in-Behind.is) (known-covers c.in-Behind.grown.now c.args.log.now.items c.covers-in-Behind.result c.covers-in-Behind.ensures)
