use Rattle.tests_store.specs.Kept.{IsHand}
use Rattle.tests_store.proofs.meeting.look_meanwhile.Given as goal

abbrev pub invariant-loop : goal.invariant-loop
invariant-loop l = IsHand l.store l.many l.h
