use Rattle.std.proofs.Common.{◌≡◌, ◌++◌, take}
use Rattle.lasp_dots.proofs.pieces.piece.push_shares.Given as goal

abbrev pub invariant-loop-item : goal.invariant-loop-item
invariant-loop-item g l = l.copy.items ≡ l.fn.copy.items ++ take l.item-index l.items
