use Rattle.lasp_delta.proofs.ChangedLaws.{AreChangedTo}
use Rattle.lasp_delta.proofs.changed.other_counts.Given as goal

abbrev pub invariant-loop-node : goal.invariant-loop-node
invariant-loop-node l = AreChangedTo l.before l.after l.node l.counts
