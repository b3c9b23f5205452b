use Rattle.lasp_logset.proofs.WholeLaws.{past-one}
use Rattle.lasp_logset.proofs.past.Past.one.Goals as goal

pub invariant_of-result : goal.invariant_of-result
invariant_of-result c = past-one c.new-log.result.items c.push.new.self.items c.args.entry c.new-log.ensures c.in_ok-push.ensures.ok c.recall_ints.ensures
