use Rattle.std.proofs.Common.{◌≡◌}
use Rattle.lasp_dots.specs.Pieces.{offset}
use Rattle.lasp_dots.proofs.pieces.span.count_items.Given as goal

abbrev pub invariant-loop-piece : goal.invariant-loop-piece
invariant-loop-piece g l = l.count ≡ offset l.pieces l.piece-index
