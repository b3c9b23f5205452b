use Rattle.std.proofs.Common.{arith}
use Rattle.lasp_histlock.proofs.Looking.{looks}
use Rattle.lasp_histlock.proofs.steps.look.Goals as goal

pub load-requires : goal.load-requires
load-requires g c =
    (c.requires.board.1, omega (arith, c.requires.board.0), looks _ _ g.T.Kept.names g.T.Kept.may _ _ _ c.args.seat.now.me c.requires.ready)
