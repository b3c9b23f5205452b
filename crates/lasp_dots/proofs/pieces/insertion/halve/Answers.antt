use Rattle.lasp_dots.proofs.PieceLaws.{halved-joined, halved-filled}
use Rattle.lasp_dots.proofs.pieces.insertion.halve.Goals as goal

pub returns-clause-same : goal.returns-clause-same
returns-clause-same g c =
    halved-joined c.args.pieces.now.items c.insert.new.self.items c.args.piece c.index-2.result.now c.in_ok-low.low c.in_ok-low.high c.requires.within c.index-2.ensures c.in_ok-low.ensures.parts c.in_ok-insert.ensures.items

pub returns-clause-full : goal.returns-clause-full
returns-clause-full g c =
    halved-filled c.args.pieces.now.items c.insert.new.self.items c.args.piece c.in_ok-low.low c.in_ok-low.high c.requires.within c.requires.filled c.in_ok-low.ensures.low c.in_ok-low.ensures.high c.in_ok-insert.ensures.items
