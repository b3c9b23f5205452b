use Rattle.std.proofs.Common.{◌≤◌, ◌-◌, length}
use Rattle.lasp_dots.specs.Pieces.{many}
use Rattle.lasp_dots.proofs.pieces.search.place_in.Given as goal

-- The number lies between the two.
abbrev pub invariant-loop-low : goal.invariant-loop-low
invariant-loop-low g l = (l.low ≤ many (g.E.Edge.in_front l.edge) l.items) × (many (g.E.Edge.in_front l.edge) l.items ≤ l.high) × (l.high ≤ length l.items)

abbrev pub decreases-loop-low : goal.decreases-loop-low
decreases-loop-low g l = l.high - l.low
