use Rattle.std.proofs.Common.{◌≡◌, take}
use Rattle.lasp_dots.proofs.pieces.list.Pieces.share.Given as goal

abbrev pub invariant-loop-piece : goal.invariant-loop-piece
invariant-loop-piece g l = l.pieces.items ≡ take l.piece-index l.self-inside.pieces.items
