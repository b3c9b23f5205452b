use Rattle.std.proofs.Common.{◌≡◌, false, All, length}
use Rattle.tests_values.proofs.histlock.callers.rejoin_all.Given as goal

abbrev pub invariant-loop-other : goal.invariant-loop-other
invariant-loop-other l = (l.first.lock ≡ l.lock) × (l.first.number ≡ 0) × All (λ p. (p.lock ≡ l.lock) × (p.turn ≡ false)) l.passes.items

abbrev pub decreases-loop-other : goal.decreases-loop-other
decreases-loop-other l = length l.passes.items
