use Rattle.std.proofs.Common.{sym, ap, ◌∙◌, arith}
use Rattle.lasp_histlock.proofs.Parting.{splits_pass}
use Rattle.lasp_histlock.proofs.lock.HistLock.split.Goals as goal

pub split_seat-seat-requires : goal.split_seat-seat-requires
split_seat-seat-requires g c =
    let p = c.p.invariant in (
      ap (λ v. v.lock) c.p.view_is ∙ (c.requires.lock ∙ sym c.self.view_is),
      omega (arith, c.self.invariant),
      splits_pass _ _ g.T.Kept.names g.T.Kept.may _ _ c.p.inside.seat.me.0 p.ready p.pass (ap (λ v. v.number) c.p.view_is ∙ c.requires.first),
    )
