use Rattle.tests_store.proofs.Passes.{asked-turn}
use Rattle.tests_store.proofs.asking.look.Goals as goal

pub returns : goal.returns
returns g c = asked-turn c.args.store.now c.args.many c.args.h.now c.look.new.h c.reads_stay_open.ensures c.requires.hand c.look.ensures.turn
