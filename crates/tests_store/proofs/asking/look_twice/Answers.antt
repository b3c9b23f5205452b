use Rattle.tests_store.proofs.Passes.{asked-then}
use Rattle.tests_store.proofs.asking.look_twice.Goals as goal

pub returns : goal.returns
returns g c = asked-then c.args.store.now c.args.many c.args.h.now c.look-one.new.h c.try_look-other.new.h c.look-one.ensures c.try_look-other.ensures
