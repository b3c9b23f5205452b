use Rattle.lasp_logset.proofs.WholeLaws.{past-apart}
use Rattle.lasp_logset.proofs.past.Past.of_apart.Goals as goal

pub invariant_of-result : goal.invariant_of-result
invariant_of-result c = past-apart c.args.log.items c.len-rows.result c.len-rows.ensures.exact c.len-rows.ensures.small c.requires.apart c.requires.ints
