use Rattle.std.proofs.Common.{sym, ap, ◌∙◌, arith}
use Rattle.lasp_histlock.proofs.Returning.{joins_pass}
use Rattle.lasp_histlock.proofs.lock.HistLock.rejoin.Goals as goal

pub join_seat-requires : goal.join_seat-requires
join_seat-requires g c =
    let p = c.p.invariant in let q = c.other.invariant in (
      ap (λ v. v.lock) c.p.view_is ∙ (c.requires.lock.0 ∙ sym c.self.view_is),
      ap (λ v. v.lock) c.other.view_is ∙ (c.requires.lock.1 ∙ sym c.self.view_is),
      q.empty,
      omega (arith, c.self.invariant),
      joins_pass _ _ g.T.Kept.names g.T.Kept.may _ _ c.p.inside.seat.me.0 _ c.other.inside.seat.me.0 p.ready p.pass (ap (λ v. v.number) c.p.view_is ∙ c.requires.first) q.ready q.pass,
    )
