use Rattle.std.proofs.Common.{arith, ap}
use Rattle.lasp_histlock.proofs.Landing.{lands}
use Rattle.lasp_histlock.proofs.steps.land.Goals as goal

pub load-requires : goal.load-requires
load-requires g c =
    let r = c.requires.first in (
      c.requires.board.1,
      omega (arith, c.requires.board.0),
      lands _ _ g.T.Kept.names g.T.Kept.may (g.T.Kept.frame c.args.board.now.key) _ _ g.J.Room.table c.args.seat.now.me (ap (λ m. m.0) r.1) r.0,
    )
