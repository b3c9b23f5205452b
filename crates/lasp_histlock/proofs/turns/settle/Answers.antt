use Rattle.std.proofs.Common.{arith}
use Rattle.lasp_histlock.proofs.Carrying.{splits_carrier}
use Rattle.lasp_histlock.proofs.turns.settle.Goals as goal

pub split_seat-carrier-requires : goal.split_seat-carrier-requires
split_seat-carrier-requires g c =
    let r = c.requires.turn in
    (c.requires.board.1, omega (arith, c.requires.board.0), splits_carrier _ _ g.T.Kept.names g.T.Kept.may _ _ c.args.seat.now.me.0 r.0 r.2 r.3)
