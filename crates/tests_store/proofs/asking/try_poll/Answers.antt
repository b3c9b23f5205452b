use Rattle.tests_store.proofs.Passes.{asked-tried}
use Rattle.tests_store.proofs.asking.try_poll.Goals as goal

pub returns : goal.returns
returns c = asked-tried c.args.store.now c.args.many c.args.h.now c.try_poll_read.new.h c.try_poll_read.result c.reads_stay_open.ensures c.requires.hand c.try_poll_read.ensures.busy c.try_poll_read.ensures.ok c.try_poll_read.ensures.refused
