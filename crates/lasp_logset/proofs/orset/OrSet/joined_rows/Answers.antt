use Rattle.lasp_logset.proofs.WholeLaws.{alone-counted, other-way}
use Rattle.lasp_logset.proofs.orset.OrSet.joined_rows.Goals as goal

pub returns-then-rows-eq0 : goal.returns-then-rows-eq0
returns-then-rows-eq0 c = alone-counted c.args.self.now c.args.other.now c.rows.result c.rows-then-rows-eq0.result c.ascends.ensures c.rows.ensures.exact c.if-rows-eq0.true c.rows-then-rows-eq0.ensures.exact

pub returns-then-rows-eq0-2 : goal.returns-then-rows-eq0-2
returns-then-rows-eq0-2 c =
    other-way c.args.self.now c.args.other.now c.rows-then-rows-eq0-2.result
    (alone-counted c.args.other.now c.args.self.now c.rows-2.result c.rows-then-rows-eq0-2.result c.ascends-2.ensures c.rows-2.ensures.exact c.if-rows-eq0-2.true c.rows-then-rows-eq0-2.ensures.exact)

pub returns-else-is_asked : goal.returns-else-is_asked
returns-else-is_asked c = other-way c.args.self.now c.args.other.now c.joined_count-else-is_asked.result c.joined_count-else-is_asked.ensures
