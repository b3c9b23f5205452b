use Rattle.lasp_logset.proofs.WholeLaws.{more-rows, order-known, order-passed}
use Rattle.lasp_logset.proofs.orset.OrSet.le.Goals as goal

pub returns-then-rows : goal.returns-then-rows
returns-then-rows c = more-rows c.args.self.now c.args.other.now c.rows.result c.rows-2.result c.ascends.ensures c.ascends-2.ensures c.rows.ensures.exact c.rows-2.ensures.exact c.if-rows.true

pub returns-in-Ok : goal.returns-in-Ok
returns-in-Ok c = order-known c.args.self.now c.args.other.now c.log-log.result.now.items c.in-Ok.asked c.covers.result c.log-log.ensures.rows c.in-Ok.ensures c.covers.ensures

pub returns-in-Err : goal.returns-in-Err
returns-in-Err c = order-passed c.args.self.now c.args.other.now c.log-log.result.now.items c.log.result.now.items c.brings_nothing_to.result c.log-log.ensures.rows c.log.ensures.rows c.brings_nothing_to.ensures
