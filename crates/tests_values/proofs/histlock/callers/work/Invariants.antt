use Rattle.std.proofs.Common.{◌≡◌, false}
use Rattle.tests_values.proofs.histlock.callers.work.Given as goal

abbrev pub invariant-loop-text : goal.invariant-loop-text
invariant-loop-text g l = (l.p.lock ≡ l.initial.p.lock) × (l.p.number ≡ l.initial.p.number) × (l.p.turn ≡ false)
