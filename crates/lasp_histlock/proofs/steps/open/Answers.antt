use Rattle.std.proofs.Common.{arith}
use Rattle.lasp_histlock.proofs.Turning.{opens}
use Rattle.lasp_histlock.proofs.steps.open.Goals as goal

pub compare_exchange-requires : goal.compare_exchange-requires
compare_exchange-requires g c =
    let r = c.requires.pass in
    (c.requires.board.1, omega (arith, c.requires.board.0), opens _ _ g.T.Kept.names g.T.Kept.may _ _ _ c.args.seat.now.me r.0 r.1 r.2)
