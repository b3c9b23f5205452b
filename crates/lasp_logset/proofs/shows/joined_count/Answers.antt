use Rattle.std.proofs.Common.{arith}
use Rattle.lasp_logset.proofs.WholeLaws.{counted-join, counted-small, passed-join}
use Rattle.lasp_logset.proofs.shows.joined_count.Goals as goal

pub count_lacking-requires : goal.count_lacking-requires
count_lacking-requires c = counted-small c.args.other.now c.in-Ok-Ok.rows c.rows-rows.result c.in-Ok-Ok.ensures'.rows c.in-Ok-Ok.ensures'.apart c.rows-rows.ensures.exact c.rows-rows.ensures.small

pub overflow_add-result : goal.overflow_add-result
overflow_add-result c =
    let few = counted-small c.args.other.now c.in-Ok-Ok.rows c.rows-rows.result c.in-Ok-Ok.ensures'.rows c.in-Ok-Ok.ensures'.apart c.rows-rows.ensures.exact c.rows-rows.ensures.small in
    omega (arith, c.rows.ensures.small, c.count_lacking.ensures.few, few)

pub returns-in-Ok-Ok : goal.returns-in-Ok-Ok
returns-in-Ok-Ok c =
    counted-join c.args.set.now c.args.other.now c.in-Ok-Ok.asked c.in-Ok-Ok.rows c.rows.result c.count_lacking.result c.ascends.ensures c.in-Ok-Ok.ensures c.in-Ok-Ok.ensures'.rows
    c.in-Ok-Ok.ensures'.apart c.rows.ensures.exact c.count_lacking.ensures.exact

pub returns-in_default : goal.returns-in_default
returns-in_default c =
    passed-join c.args.set.now c.args.other.now c.log.result.now.items c.log-log.result.now.items c.rows-in_default.result c.count_more.result c.log.ensures.rows c.log-log.ensures.rows c.rows-in_default.ensures.exact
    c.count_more.ensures.exact
