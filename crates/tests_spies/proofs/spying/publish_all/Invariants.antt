use Rattle.tests_spies.specs.Kept.{MayPublish}
use Rattle.tests_spies.proofs.spying.publish_all.Given as goal

abbrev pub invariant-loop : goal.invariant-loop
invariant-loop g l = MayPublish l.store l.f l.shelf
