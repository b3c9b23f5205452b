use Rattle.std.specs.Prelude.{Some}
use Rattle.tests_store.proofs.Passes.{asked-then}
use Rattle.tests_store.proofs.asking.poll_twice.Goals as goal

pub returns : goal.returns
returns g c = asked-then c.args.store.now c.args.many c.args.h.now c.poll-one.new.h c.try_poll-other.new.h c.poll-one.ensures c.try_poll-other.ensures

pub try_poll-other-requires-clause-open : goal.try_poll-other-requires-clause-open
try_poll-other-requires-clause-open g c = c.poll-one.ensures.polls (Some c.args.r.now) c.requires.open
