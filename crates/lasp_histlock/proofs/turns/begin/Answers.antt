use Rattle.std.proofs.Common.{◌≡◌, true, false, sym, ap, subst, ◌∙◌, arith}
use Rattle.lasp_histlock.specs.Names.{id_of}
use Rattle.lasp_histlock.specs.Rule.{IsReady}
use Rattle.lasp_histlock.specs.Views.{placed}
use Rattle.lasp_histlock.proofs.Carrying.{joins_carrier}
use Rattle.lasp_histlock.proofs.turns.begin.Goals as goal

pub join_seat-requires : goal.join_seat-requires
join_seat-requires g c =
    let r = c.requires.turn in
    let taken = c.take_out.ensures in
    let carrier = c.open-value.ensures.seat in
    let view : c.take_out.new.seat.me.0 ≡ placed true false c.args.seat.now.me.0 = ap (λ m. m.0) taken.seat.1 in
    let named = ap id_of (taken.content ∙ c.requires.lock) in (
      taken.seat.0 ∙ c.requires.board.1,
      carrier.0 ∙ named,
      carrier.1,
      omega (arith, c.requires.board.0),
      joins_carrier _ _ g.T.Kept.names g.T.Kept.may _ _ c.take_out.new.seat.me.0 _ c.open-value.result.1.me.0 (subst IsReady (sym view) r.0) (ap (λ v. v.turn) view ∙ r.2) carrier.2.0 carrier.2.1 carrier.2.2,
    )
