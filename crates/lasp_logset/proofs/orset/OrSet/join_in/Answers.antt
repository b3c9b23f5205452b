use Rattle.lasp_logset.proofs.WholeLaws.{empty-rows, joined-nothing}
use Rattle.lasp_logset.proofs.orset.OrSet.join_in.Goals as goal

pub returns-then-rows-eq0-clause-ok : goal.returns-then-rows-eq0-clause-ok
returns-then-rows-eq0-clause-ok c = joined-nothing c.args.self.now c.args.other.now c.rows.result c.ascends.ensures c.rows.ensures.exact c.if-rows-eq0.true

pub take_all-requires : goal.take_all-requires
take_all-requires c = empty-rows c.args.self.now c.rows-2.result c.rows-2.ensures.exact c.if-rows-eq0-2.true
