use Rattle.std.proofs.Common.{ap, ◌+◌, arith, length}
use Rattle.lasp_log.specs.Log.{joined}
use Rattle.lasp_dots.specs.Pieces.{many}
use Rattle.lasp_dots.proofs.PieceLaws.{filled-piece, fits-piece, offset-more, offset-past, item-in}
use Rattle.lasp_dots.proofs.pieces.search.item_behind.Goals as goal

pub returns-then-place-items-clause-some : goal.returns-then-place-items-clause-some
returns-then-place-items-clause-some g c =
    let place = c.place_of-place.ensures in
    item-in c.args.pieces.now c.place_of-place.result.piece c.place_of-place.result.at (many (g.E.Edge.in_front c.args.edge.now) (joined c.args.pieces.now)) c.index-pieces-place.result c.items-items.result.now c.index-items-place.result
    place.within c.index-pieces-place.is c.items-items.ensures c.if-place-items.true c.index-items-place.is place.sum

pub bounds-behind-0 : goal.bounds-behind-0
bounds-behind-0 g c =
    rw c.items-behind.ensures
    (filled-piece c.args.pieces.now (c.place_of-place.result.piece + 1) c.index-pieces-place-then-place-pieces.result c.requires.filled c.if-place-pieces.true c.index-pieces-place-then-place-pieces.is)

pub returns-then-place-pieces-clause-some : goal.returns-then-place-pieces-clause-some
returns-then-place-pieces-clause-some g c =
    let place = c.place_of-place.ensures in
    let fits = fits-piece c.args.pieces.now c.place_of-place.result.piece c.place_of-place.result.at c.index-pieces-place.result place.within c.index-pieces-place.is place.fits in
    let more = offset-more c.args.pieces.now c.place_of-place.result.piece c.index-pieces-place.result place.within c.index-pieces-place.is in
    item-in c.args.pieces.now (c.place_of-place.result.piece + 1) 0 (many (g.E.Edge.in_front c.args.edge.now) (joined c.args.pieces.now)) c.index-pieces-place-then-place-pieces.result c.items-behind.result.now c.index-behind-0.result
    c.if-place-pieces.true c.index-pieces-place-then-place-pieces.is c.items-behind.ensures
    (rw c.items-behind.ensures
    (filled-piece c.args.pieces.now (c.place_of-place.result.piece + 1) c.index-pieces-place-then-place-pieces.result c.requires.filled c.if-place-pieces.true c.index-pieces-place-then-place-pieces.is)) c.index-behind-0.is
    (omega (arith, place.sum, fits, more, c.if-place-items.false, ap length c.items-items.ensures))

pub returns-clause-none : goal.returns-clause-none
returns-clause-none g c =
    let place = c.place_of-place.ensures in
    let more = offset-more c.args.pieces.now c.place_of-place.result.piece c.index-pieces-place.result place.within c.index-pieces-place.is in
    omega (arith, place.sum, more, c.if-place-items.false, ap length c.items-items.ensures, offset-past c.args.pieces.now (c.place_of-place.result.piece + 1) c.if-place-pieces.false)
