use Rattle.lasp_delta.proofs.JoinLaws.{AreLargerTo}
use Rattle.lasp_delta.proofs.application.larger_counts.Given as goal

abbrev pub invariant-loop-i : goal.invariant-loop-i
invariant-loop-i l = AreLargerTo l.counts l.others l.i l.all
