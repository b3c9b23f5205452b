use Rattle.std.proofs.Common.{◌≡◌, ◌≤◌}
use Rattle.lasp_histlock.proofs.lock.HistLock.take.Given as goal

abbrev pub invariant-loop : goal.invariant-loop
invariant-loop g l = (l.p ≡ record l.initial.p { misses = l.p.misses }) × (l.initial.p.misses ≤ l.p.misses)
