use Rattle.lasp_dots.proofs.RaiseLaws.{IsRaised}
use Rattle.lasp_dots.proofs.counts.raise.Given as goal

-- The first counts are raised.
abbrev pub invariant-loop-i : goal.invariant-loop-i
invariant-loop-i l = IsRaised l.i l.fn.counts.items l.others l.counts.items
