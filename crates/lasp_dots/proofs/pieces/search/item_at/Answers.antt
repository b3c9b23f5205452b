use Rattle.std.proofs.Common.{ap, arith, length}
use Rattle.lasp_dots.proofs.PieceLaws.{offset-more, item-in, past-all}
use Rattle.lasp_dots.proofs.pieces.search.item_at.Goals as goal

pub loop-piece-preserved : goal.loop-piece-preserved
loop-piece-preserved g c =
    let more = offset-more c.args.pieces.now c.loop-piece.piece-index c.piece-item.result c.loop-piece-test.true c.piece-item.is in
    omega (arith, more, ap length c.items-items.ensures, c.if-rest-items.false, c.loop-piece.invariant)

pub returns-then-rest-items : goal.returns-then-rest-items
returns-then-rest-items g c =
    item-in c.args.pieces.now c.loop-piece.piece-index c.loop-piece.rest c.args.place c.piece-item.result c.items-items.result.now c.index-items-rest.result c.loop-piece-test.true c.piece-item.is
    c.items-items.ensures c.if-rest-items.true c.index-items-rest.is c.loop-piece.invariant

pub unreachable-requires : goal.unreachable-requires
unreachable-requires g c =
    let past = past-all c.args.pieces.now c.loop-piece.piece-index c.loop-piece.rest c.args.place c.loop-piece-test.false c.loop-piece.invariant in
    omega (arith, past, c.requires)
