use Rattle.tests_store.proofs.Passes.{asked-length}
use Rattle.tests_store.proofs.asking.count.Goals as goal

pub returns : goal.returns
returns c = asked-length c.args.store.now c.args.many c.length.result c.args.h.now c.length.new.h c.length.ensures.pass c.requires
