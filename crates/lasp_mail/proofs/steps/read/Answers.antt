use Rattle.std.proofs.Common.{arith}
use Rattle.lasp_mail.proofs.Witnesses.{reads}
use Rattle.lasp_mail.proofs.steps.read.Goals as goal

pub split_seat-requires : goal.split_seat-requires
split_seat-requires g c =
    let r = c.requires.ledger in
    (r.1, omega (arith, r.0), reads _ _ _ _ _ _ c.args.seat.now.me.0 c.requires.owner)
