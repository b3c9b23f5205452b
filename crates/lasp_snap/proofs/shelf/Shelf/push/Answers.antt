use Rattle.std.proofs.Common.{◌≡◌, ◌+◌, sym, ap, ◌∙◌, subst}
use Rattle.left_right.specs.Sides as sides
use Rattle.lasp_snap.specs.declared.shown.Shown.{Shown}
use Rattle.lasp_snap.specs.Rule.{knowing}
use Rattle.lasp_snap.specs.Views.{IsOfferOf}
use Rattle.lasp_snap.proofs.Publishing.{next-follows, showed-next, writes-next, journal-next}
use Rattle.lasp_snap.proofs.shelf.Shelf.push.Goals as goal

-- the version that was offered may be shown next
pub replace_with-answer-requires : goal.replace_with-answer-requires
replace_with-answer-requires g c =
    let x : Shown = c.self.inside.writer.desk.shown.value in
    let next : Shown = record { version = c.args.version; published = c.place-published.result + 1; front = c.in-Ok.front } in
    let offer : IsOfferOf x c.args.version c.in-Ok.front = subst (λ (s : Shown). IsOfferOf s c.args.version c.in-Ok.front) c.published.ensures c.in-Ok.ensures.front.1 in
    next-follows x next c.args.self.now c.self.invariant.0.shown c.self.view_is offer (ap (λ n. n + 1) c.place-published.ensures) c.requires.later c.requires.small

-- it is what is shown, and the log ends with its offer
pub invariant_of-self-then-is_ok : goal.invariant_of-self-then-is_ok
invariant_of-self-then-is_ok g c =
    let x : Shown = c.self.inside.writer.desk.shown.value in
    let next : Shown = record { version = c.args.version; published = c.place-published.result + 1; front = c.in-Ok.front } in
    let offer : IsOfferOf x c.args.version c.in-Ok.front = subst (λ (s : Shown). IsOfferOf s c.args.version c.in-Ok.front) c.published.ensures c.in-Ok.ensures.front.1 in
    let goes_on = next-follows x next c.args.self.now c.self.invariant.0.shown c.self.view_is offer (ap (λ n. n + 1) c.place-published.ensures) c.requires.later c.requires.small in
    let after = c.replace_with-answer.new.dest in
    let y : Shown = after.desk.shown.value in
    let w = sides.view after.desk.place in
    let shown : (y ≡ next) × (w ≡ knowing next) = showed-next next x y _ w c.replace_with-answer.result (sym c.is_ok.ensures.value ∙ c.if-is_ok.true) c.replace_with-answer.ensures in
    (writes-next next y w shown goes_on.shown, journal-next next y w shown _ c.offer.new.self.head c.offer.new.self.front _ c.in-Ok.ensures.journal c.in-Ok.ensures.front.0)
