use Rattle.lasp_logset.proofs.KeptLaws.{kept-order}
use Rattle.lasp_logset.proofs.set.LogSet.covers.Goals as goal

pub returns : goal.returns
returns c =
    let order = kept-order c.self.inside.rows.entries c.self.inside.log.items c.args.log.now.items c.self.invariant.kept in
    rw (← c.self.view_is) (λ nothing. order.0 (c.brings_nothing.ensures.0 nothing), λ low. c.brings_nothing.ensures.1 (order.1 low))
