use Rattle.lasp_logset.proofs.BehindLaws.{row-told}
use Rattle.lasp_logset.proofs.behind.is_same.Goals as goal

pub returns : goal.returns
returns c = row-told c.args.row.now c.args.other.now c.name.result.now c.name-2.result.now c.is_dead.result c.is_dead-2.result c.eq.result c.name.ensures c.name-2.ensures c.is_dead.ensures c.is_dead-2.ensures c.if-is_dead.false c.eq.ensures
