use Rattle.std.proofs.Common.{◌≡◌, length}
use Rattle.lasp_log.specs.Log.{joined}
use Rattle.lasp_log.proofs.log.join_short.Given as goal

abbrev pub invariant-loop-chunks : goal.invariant-loop-chunks
invariant-loop-chunks g l = joined l.chunks.items ≡ joined l.fn.chunks.items

abbrev pub decreases-loop-chunks : goal.decreases-loop-chunks
decreases-loop-chunks g l = length l.chunks.items
