use Rattle.std.proofs.Common.{rules, ◌≡◌, ◌∷◌, [], ◌++◌, drop, fold, sym, ap, ◌∙◌, subst}
use Rattle.left_right.specs.Sides as sides
use Rattle.lasp_snap.specs.declared.shown.Shown.{Shown}
use Rattle.lasp_snap.specs.Rule.{Follows, Showed}
use Rattle.lasp_snap.proofs.Publishing.{fold_last, showed}
use Rattle.lasp_snap.proofs.Rules.{publishes}
use Rattle.lasp_snap.proofs.shelf.publish.Goals as goal

-- the one operation that was appended last is what is shown
pub publish_as-requires : goal.publish_as-requires
publish_as-requires g c next is =
    let w = c.append.new.self in
    let shown : Shown = w.desk.shown.value in
    let old = drop c.args.writer.behind c.args.writer.log.items in
    let pending : drop w.behind w.log.items ≡ old ++ c.args.next ∷ [] = search rules in
    let next_is : next ≡ c.args.next = is ∙ (ap (λ ops. fold (λ (_ : Shown) (n : Shown). n) shown ops) pending ∙ fold_last shown old c.args.next) in
    let same : c.args.writer.desk.shown.value ≡ shown = ap (λ d. d.shown.value) (sym c.append.ensures.desk) in
    publishes _ _ shown next (subst (λ y. Follows shown y) (sym next_is) (subst (λ x. Follows x c.args.next) same c.requires))

pub returns : goal.returns
returns g c =
    let w = c.append.new.self in
    let shown : Shown = w.desk.shown.value in
    let old = drop c.args.writer.behind c.args.writer.log.items in
    let pending : drop w.behind w.log.items ≡ old ++ c.args.next ∷ [] = search rules in
    let put : Shown = fold (λ (_ : Shown) (n : Shown). n) shown (drop w.behind w.log.items) in
    let put_is : put ≡ c.args.next = ap (λ ops. fold (λ (_ : Shown) (n : Shown). n) shown ops) pending ∙ fold_last shown old c.args.next in
    let after = c.publish_as.result.0 in
    subst (λ d. Showed c.publish_as.result.1 c.args.next d.shown.value (sides.view d.place) after.desk.shown.value (sides.view after.desk.place)) c.append.ensures.desk
    (showed c.args.next shown after.desk.shown.value (sides.view w.desk.place) (sides.view after.desk.place) _ _ c.publish_as.result.1 put put_is c.publish_as.ensures.values c.publish_as.ensures.rule)
