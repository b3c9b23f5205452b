use Rattle.tests_store.proofs.Passes.{asked-turn}
use Rattle.tests_store.proofs.asking.check.Goals as goal

pub returns : goal.returns
returns g c = asked-turn c.args.store.now c.args.many c.args.h.now c.check_settled.new.h c.reads_stay_open.ensures c.requires c.check_settled.ensures.turn
