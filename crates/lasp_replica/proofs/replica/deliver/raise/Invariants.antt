use Rattle.std.proofs.Common.{◌≡◌}
use Rattle.lasp_replica.proofs.RaiseLaws.{raised}
use Rattle.lasp_replica.proofs.replica.deliver.raise.Given as goal

abbrev pub invariant-loop-i : goal.invariant-loop-i
invariant-loop-i l = l.counts ≡ raised l.i l.fn.counts l.others
