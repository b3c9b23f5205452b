use Rattle.std.proofs.Common.{◌≡◌}
use Rattle.lasp_core.proofs.upkeep.ready_reads.Given as goal

abbrev pub invariant-loop-read : goal.invariant-loop-read
invariant-loop-read l = l.replica ≡ l.fn.replica
