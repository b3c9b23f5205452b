use Rattle.std.proofs.Common.{◌≡◌, ◌+◌}
use Rattle.lasp_dots.specs.Pieces.{offset}
use Rattle.lasp_dots.proofs.pieces.search.item_at.Given as goal

abbrev pub invariant-loop-piece : goal.invariant-loop-piece
invariant-loop-piece g l = offset l.pieces l.piece-index + l.rest ≡ l.place
