use Rattle.std.proofs.Common.{length, ◌+◌, ◌-◌, ◌≡◌, ◌≤◌}
use Rattle.std.specs.Io.KnownBytes.{Consumes}
use Rattle.lasp_edge.proofs.read.read_up_to.Given as goal

abbrev pub invariant-loop-piece : goal.invariant-loop-piece
invariant-loop-piece g l =
    (length l.bytes.items ≤ l.limit + 1) × Consumes (g.R.Read.remaining l.fn.r) (g.R.Read.remaining l.r) l.bytes.items
    × (l.faults ≡ l.fn.faults)

abbrev pub decreases-loop-piece : goal.decreases-loop-piece
decreases-loop-piece g l = l.limit + 1 - length l.bytes.items
