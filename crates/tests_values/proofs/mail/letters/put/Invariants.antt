use Rattle.std.proofs.Common.{◌≡◌}
use Rattle.tests_values.proofs.mail.letters.put.Given as goal

abbrev pub invariant-loop : goal.invariant-loop
invariant-loop g l = (l.o ≡ l.initial.o) × (l.item ≡ l.initial.item)
