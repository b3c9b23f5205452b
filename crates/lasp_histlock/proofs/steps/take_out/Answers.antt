use Rattle.std.proofs.Common.{◌≡◌, true, ◌∷◌, Some, None, sym, ap, subst, ◌∙◌, arith}
use Rattle.atomic_table.specs.Table.{rest}
use Rattle.lasp_histlock.specs.Rule.{IsReady}
use Rattle.lasp_histlock.specs.Views.{placed}
use Rattle.lasp_histlock.proofs.Moving.{lifts_full, sets_bare}
use Rattle.lasp_histlock.proofs.steps.take_out.Goals as goal

pub load-requires : goal.load-requires
load-requires g c =
    let r = c.requires.turn in
    (c.requires.board.1, omega (arith, c.requires.board.0), lifts_full _ _ g.T.Kept.names g.T.Kept.may _ _ _ c.args.seat.now.me r.0 r.1 r.2)

pub exchange-requires : goal.exchange-requires
exchange-requires g c =
    let told = c.load.ensures.2 in
    let slots = ap (λ m. m.1) told.1 in
    (c.load.ensures.0 ∙ c.requires.board.1, (Some told.0, slots ∙ ap (λ l. (0, Some told.0) ∷ l) (sym (ap rest slots))))

pub load-requires-2 : goal.load-requires-2
load-requires-2 g c =
    let r = c.requires.turn in
    let told = c.load.ensures.2 in
    let out = c.exchange.ensures in
    let view : c.exchange.new.seat.me.0 ≡ placed true true c.args.seat.now.me.0 = ap (λ m. m.0) out.3 ∙ ap (λ m. m.0) told.1 in
    let carried = ap (λ m. m.1) out.3 ∙ ap (λ l. (0, None) ∷ rest l) (ap (λ m. m.1) told.1 ∙ ap (λ l. (0, Some told.0) ∷ l) c.requires.empty) in (
      out.0 ∙ (c.load.ensures.0 ∙ c.requires.board.1),
      omega (arith, c.requires.board.0),
      sets_bare _ _ g.T.Kept.names g.T.Kept.may _ _ _ c.exchange.new.seat.me carried (subst IsReady (sym view) r.0) (ap (λ v. v.turn) view ∙ r.1),
    )
