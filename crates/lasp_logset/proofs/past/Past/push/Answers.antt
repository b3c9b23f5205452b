use Rattle.lasp_logset.proofs.GrownLaws.{past-pushed}
use Rattle.lasp_logset.proofs.past.Past.push.Goals as goal

pub invariant_of-self-2 : goal.invariant_of-self-2
invariant_of-self-2 c =
    past-pushed c.self.inside.log.items c.push.new.self.items c.args.entry c.self.inside.rows c.counted-rows.result c.len-len.result c.args.is_fresh c.self.invariant (rw c.self.view_is c.requires.raises) (rw c.self.view_is c.requires.fresh)
    c.recall_ints.ensures c.in_ok-push.ensures.ok c.len-len.ensures.exact c.len-len.ensures.small c.counted-rows.ensures
