use Rattle.lasp_logset.proofs.GrownLaws.{begun-within, raised-not, raised-then}
use Rattle.lasp_logset.proofs.grown.raises_behind.Goals as goal

pub since-behind-requires : goal.since-behind-requires
since-behind-requires c = begun-within c.args.set.now c.args.past.now c.version.result c.version.ensures.exact c.requires

pub returns-then-not-lacks_near : goal.returns-then-not-lacks_near
returns-then-not-lacks_near c = raised-not c.args.set.now c.args.past.now c.args.name.now c.args.dead c.lacks_near.result c.lacks_near.ensures c.if-not-lacks_near.true c.requires

pub returns : goal.returns
returns c =
    raised-then c.args.set.now c.args.past.now c.since-behind.result c.version.result c.args.name.now c.args.dead c.lacks_near.result c.is_raised.result c.lacks_near.ensures c.if-not-lacks_near.false c.is_raised.ensures c.version.ensures.exact
    c.since-behind.ensures c.requires
