use Rattle.lasp_replica.proofs.UpdateLaws.{recorded-one}
use Rattle.lasp_replica.proofs.replica.update.record_growth.Goals as goal

pub returns-then-grows : goal.returns-then-grows
returns-then-grows c =
    recorded-one c.args.grows c.args.var c.args.entry c.args.histories.now.items c.index_mut.result.now c.record.new.self c.if-grows.true c.requires.within c.index_mut.ensures.value c.record.ensures.history
