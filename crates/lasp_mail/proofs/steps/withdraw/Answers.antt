use Rattle.std.proofs.Common.{arith}
use Rattle.lasp_mail.proofs.Marks.{withdraws}
use Rattle.lasp_mail.proofs.steps.withdraw.Goals as goal

pub join_seat-requires : goal.join_seat-requires
join_seat-requires g c =
    let r = c.requires.ledger in let owner = c.requires.owner in let mark = c.requires.mark in
    (r.1, r.2, mark.1, omega (arith, r.0), withdraws _ _ _ _ _ _ c.args.seat.now.me.0 _ c.args.mark.me.0 owner.0 owner.1 mark.0 mark.2)
