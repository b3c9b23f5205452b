use Rattle.tests_store.proofs.Passes.{asked-tried}
use Rattle.tests_store.proofs.asking.try_look.Goals as goal

pub returns : goal.returns
returns c = asked-tried c.args.store.now c.args.many c.args.h.now c.try_look.new.h c.try_look.result c.reads_stay_open.ensures c.requires.hand c.try_look.ensures.busy c.try_look.ensures.ok c.try_look.ensures.refused
