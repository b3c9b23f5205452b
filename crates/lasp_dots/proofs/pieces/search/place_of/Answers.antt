use Rattle.std.proofs.Common.{ap, ◌∙◌}
use Rattle.lasp_dots.specs.Pieces.{many}
use Rattle.lasp_dots.proofs.PieceLaws.{parted-piece, edge-place}
use Rattle.lasp_dots.proofs.pieces.search.place_of.Goals as goal

pub place_in-requires : goal.place_in-requires
place_in-requires g c =
    rw c.items-items.ensures (parted-piece (g.E.Edge.in_front c.args.edge.now) c.args.pieces.now c.piece_of-piece.result c.index-pieces-piece.result c.requires.parted c.piece_of-piece.ensures.within c.index-pieces-piece.is)

pub returns : goal.returns
returns g c =
    edge-place (g.E.Edge.in_front c.args.edge.now) c.args.pieces.now c.piece_of-piece.result c.place_in.result c.index-pieces-piece.result c.requires.parted c.piece_of-piece.ensures.within c.piece_of-piece.ensures.low
    c.piece_of-piece.ensures.high c.index-pieces-piece.is (c.place_in.ensures ∙ ap (many (g.E.Edge.in_front c.args.edge.now)) c.items-items.ensures)
