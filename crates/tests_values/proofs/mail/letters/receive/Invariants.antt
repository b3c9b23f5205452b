use Rattle.std.proofs.Common.{◌≡◌, ◌≤◌}
use Rattle.tests_values.proofs.mail.letters.receive.Given as goal

abbrev pub invariant-loop : goal.invariant-loop
invariant-loop g l = (l.i.of ≡ l.mailbox) × (l.number ≤ l.count)
