use Rattle.std.proofs.Common.{ap, ◌+◌, arith, length}
use Rattle.lasp_dots.proofs.PieceLaws.{offset-more, offset-small}
use Rattle.lasp_dots.proofs.pieces.span.count_items.Goals as goal

pub overflow_add-count : goal.overflow_add-count
overflow_add-count g c =
    omega (
      arith,
      offset-more c.args.pieces.now c.loop-piece.piece-index c.piece-item.result c.loop-piece-test.true c.piece-item.is,
      offset-small c.args.pieces.now (c.loop-piece.piece-index + 1),
      ap length c.items-items.ensures,
      c.loop-piece.invariant,
      c.requires,
    )

pub loop-piece-preserved : goal.loop-piece-preserved
loop-piece-preserved g c =
    omega (
      arith,
      offset-more c.args.pieces.now c.loop-piece.piece-index c.piece-item.result c.loop-piece-test.true c.piece-item.is,
      ap length c.items-items.ensures,
      c.loop-piece.invariant,
    )
