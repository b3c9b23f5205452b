use Rattle.std.proofs.Common.{◌+◌, arith}
use Rattle.lasp_dots.proofs.PieceLaws.{over-none, filled-none, over-one, filled-over}
use Rattle.lasp_dots.proofs.pieces.removal.write_over.Goals as goal

pub returns-then-len-eq0-clause-ok : goal.returns-then-len-eq0-clause-ok
returns-then-len-eq0-clause-ok g c =
    over-none c.args.pieces.now.items c.drop_pieces.new.pieces.items c.args.span.now.begin.piece (c.args.span.now.end.piece + 1) c.args.items.items (omega (arith, c.if-len-eq0.true, c.len.ensures, c.args.items.ok)) c.drop_pieces.ensures

pub returns-then-len-eq0-clause-full : goal.returns-then-len-eq0-clause-full
returns-then-len-eq0-clause-full g c =
    filled-none c.args.pieces.now.items c.drop_pieces.new.pieces.items c.args.span.now.begin.piece (c.args.span.now.end.piece + 1) c.requires.filled c.drop_pieces.ensures

pub returns-clause-ok : goal.returns-clause-ok
returns-clause-ok g c =
    over-one c.args.pieces.now.items c.drop_pieces-2.new.pieces.items c.args.span.now.begin.piece (c.args.span.now.end.piece + 1) c.in_ok-pieces.field-0 c.args.items.items (omega (arith, c.requires.order, c.requires.within))
    (omega (arith, c.requires.order)) c.in_ok-pieces.ensures c.drop_pieces-2.ensures

pub returns-clause-full : goal.returns-clause-full
returns-clause-full g c =
    filled-over c.args.pieces.now.items c.drop_pieces-2.new.pieces.items c.args.span.now.begin.piece (c.args.span.now.end.piece + 1) c.in_ok-pieces.field-0 c.args.items.items c.requires.filled
    (omega (arith, c.if-len-eq0.false, c.len.ensures, c.args.items.ok)) (omega (arith, c.requires.order, c.requires.within)) (omega (arith, c.requires.order)) c.in_ok-pieces.ensures c.drop_pieces-2.ensures
