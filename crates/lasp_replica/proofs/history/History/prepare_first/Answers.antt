use Rattle.lasp_replica.proofs.KeptLaws.{taken-first}
use Rattle.lasp_replica.proofs.history.History.prepare_first.Goals as goal

pub returns-clause-pending : goal.returns-clause-pending
returns-clause-pending c = (taken-first c.in_ok-rows.rows c.new.result.items c.args.news.now c.in_ok-rows.ensures c.new.ensures.items c.ascends.ensures).0

pub returns-clause-apart : goal.returns-clause-apart
returns-clause-apart c = (taken-first c.in_ok-rows.rows c.new.result.items c.args.news.now c.in_ok-rows.ensures c.new.ensures.items c.ascends.ensures).1
