use Rattle.std.proofs.Common.{◌≡◌, true, ◌∷◌, Some, None, sym, ap, subst, ◌∙◌, arith}
use Rattle.atomic_table.specs.Table.{rest}
use Rattle.lasp_histlock.specs.Rule.{IsReady}
use Rattle.lasp_histlock.specs.Views.{placed}
use Rattle.lasp_histlock.proofs.Moving.{lifts_bare, sets_full}
use Rattle.lasp_histlock.proofs.steps.put_in.Goals as goal

pub load-requires : goal.load-requires
load-requires g c =
    let r = c.requires.turn in
    (c.requires.board.1, omega (arith, c.requires.board.0), lifts_bare _ _ g.T.Kept.names g.T.Kept.may _ _ _ c.args.seat.now.me r.0 r.1 r.2 r.3)

pub load-requires-2 : goal.load-requires-2
load-requires-2 g c =
    let r = c.requires.turn in
    let told = c.load.ensures.2 in
    let out = c.exchange.ensures in
    let view : c.exchange.new.seat.me.0 ≡ placed true true c.args.seat.now.me.0 = ap (λ m. m.0) out.3 ∙ ap (λ m. m.0) told in
    let carried = ap (λ m. m.1) out.3 ∙ ap (λ l. (0, Some c.args.content) ∷ rest l) (ap (λ m. m.1) told ∙ ap (λ l. (0, None) ∷ l) c.requires.empty) in (
      out.0 ∙ (c.load.ensures.0 ∙ c.requires.board.1),
      omega (arith, c.requires.board.0),
      sets_full _ _ g.T.Kept.names g.T.Kept.may _ _ _ c.exchange.new.seat.me c.args.content carried (subst IsReady (sym view) r.0) (ap (λ v. v.turn) view ∙ r.1)
          (c.requires.content ∙ sym (ap (λ v. v.lock) view)),
    )
