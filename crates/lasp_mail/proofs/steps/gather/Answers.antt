use Rattle.std.proofs.Common.{ap, ◌∙◌, arith}
use Rattle.lasp_mail.proofs.Marks.{gathers}
use Rattle.lasp_mail.proofs.Witnesses.{recalls}
use Rattle.lasp_mail.proofs.steps.gather.Goals as goal

pub join_seat-requires : goal.join_seat-requires
join_seat-requires g c =
    let r = c.requires.ledger in let reader = c.requires.reader in let mark = c.requires.mark in
    (r.1, r.2, mark.1, omega (arith, r.0), gathers _ _ _ _ _ _ c.args.seat.now.me.0 _ c.args.mark.me.0 reader.0 reader.1 mark.0 mark.2)

pub load-requires : goal.load-requires
load-requires g c =
    let r = c.requires.ledger in
    let joined = c.join_seat.ensures in
    (joined.0 ∙ r.1, omega (arith, r.0), recalls _ _ _ _ _ _ _ c.join_seat.new.seat.me (ap (λ m. m.0.spent) joined.2 ∙ c.requires.reader.0.0))
