use Rattle.std.proofs.Common.{arith}
use Rattle.lasp_mail.proofs.Witnesses.{issues}
use Rattle.lasp_mail.proofs.steps.issue.Goals as goal

pub split_seat-requires : goal.split_seat-requires
split_seat-requires g c =
    let r = c.requires.ledger in
    (r.1, omega (arith, r.0), issues _ _ _ _ _ _ c.args.seat.now.me.0 g.J.Batch.items c.requires.owner c.requires.frame)
