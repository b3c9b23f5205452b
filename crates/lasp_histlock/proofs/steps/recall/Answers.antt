use Rattle.std.proofs.Common.{arith}
use Rattle.lasp_histlock.proofs.Looking.{recalls}
use Rattle.lasp_histlock.proofs.steps.recall.Goals as goal

pub load-requires : goal.load-requires
load-requires g c =
    (c.requires.board.1, omega (arith, c.requires.board.0), recalls _ _ g.T.Kept.names g.T.Kept.may _ _ _ c.args.seat.now.me c.requires.ready)
