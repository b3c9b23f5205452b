use Rattle.std.proofs.Common.{◌≡◌, ◌++◌, ◌+◌, length}
use Rattle.lasp_log.specs.Log.{joined}
use Rattle.lasp_log.proofs.items.Items.next.Given as goal

abbrev pub invariant-loop-chunk : goal.invariant-loop-chunk
invariant-loop-chunk g l = l.self-inside.items.now ++ (joined l.self-inside.chunks.now ++ l.self-inside.newest.now) ≡ l.fn.self

abbrev pub decreases-loop-chunk : goal.decreases-loop-chunk
decreases-loop-chunk g l = length l.self-inside.chunks.now + length l.self-inside.newest.now
