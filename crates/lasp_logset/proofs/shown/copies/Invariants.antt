use Rattle.std.proofs.Common.{◌≡◌, ◌++◌, drop}
use Rattle.lasp_logset.proofs.shown.copies.Given as goal

abbrev pub invariant-loop-next : goal.invariant-loop-next
invariant-loop-next l = l.values ++ drop l.next-index l.shown ≡ l.shown
