use Rattle.std.proofs.Common.{arith}
use Rattle.lasp_histlock.proofs.Turning.{frees}
use Rattle.lasp_histlock.proofs.steps.free.Goals as goal

pub store-requires : goal.store-requires
store-requires g c =
    let r = c.requires.turn in
    (c.requires.board.1, omega (arith, c.requires.board.0), frees _ _ g.T.Kept.names g.T.Kept.may _ _ _ c.args.seat.now.me r.0 r.1 r.2 r.3)
