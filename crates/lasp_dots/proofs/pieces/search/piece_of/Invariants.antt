use Rattle.std.proofs.Common.{◌<◌, ◌≤◌, ◌-◌, length}
use Rattle.lasp_log.specs.Log.{joined}
use Rattle.lasp_dots.specs.Pieces.{many, offset}
use Rattle.lasp_dots.proofs.pieces.search.piece_of.Given as goal

-- What the tests so far said: at low a piece that begins before the edge, at high one that doesn't.
abbrev pub invariant-loop-high : goal.invariant-loop-high
invariant-loop-high g l = record {
  order : l.low < l.high;
  within : l.high ≤ length l.pieces;
  low : 0 < l.low → offset l.pieces l.low < many (g.E.Edge.in_front l.edge) (joined l.pieces);
  high : many (g.E.Edge.in_front l.edge) (joined l.pieces) ≤ offset l.pieces l.high;
}

abbrev pub decreases-loop-high : goal.decreases-loop-high
decreases-loop-high g l = l.high - l.low
