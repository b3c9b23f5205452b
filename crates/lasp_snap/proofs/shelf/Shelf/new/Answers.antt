use Rattle.std.proofs.Common.{◌≡◌, [], ◌∷◌, ◌++◌, refl, sym, ap, ◌∙◌, subst}
use Rattle.lasp_snap.specs.declared.shown.Shown.{Shown}
use Rattle.lasp_snap.specs.Log.{offered}
use Rattle.lasp_snap.specs.Rule.{Follows, IsShown}
use Rattle.lasp_snap.proofs.Logs.{shows_first, follows_self}
use Rattle.lasp_snap.proofs.Rules.{begins}
use Rattle.lasp_snap.proofs.shelf.Shelf.new.Goals as goal

-- both copies are the one that is shown
pub new-requires-clause-rule : goal.new-requires-clause-rule
new-requires-clause-rule g c =
    let shown : Shown = record { version = c.args.first; published = 1; front = c.in-Some.front } in
    let offers : shown.front.log ≡ offered c.args.first ∷ [] = c.in-Some.ensures.log ∙ ap (λ l. l ++ offered c.args.first ∷ []) c.new_log-head.ensures.empty in
    begins _ (subst IsShown (sym c.in_ok-one.ensures) (shows_first shown offers refl c.requires.small))

pub publish-writer-requires : goal.publish-writer-requires
publish-writer-requires g c =
    let shown : Shown = record { version = c.args.first; published = 1; front = c.in-Some.front } in
    let offers : shown.front.log ≡ offered c.args.first ∷ [] = c.in-Some.ensures.log ∙ ap (λ l. l ++ offered c.args.first ∷ []) c.new_log-head.ensures.empty in
    let both : c.in_ok-writer.writer.desk.shown.value ≡ shown = c.in_ok-writer.ensures.0 ∙ c.in_ok-one.ensures in
    subst (λ (x : Shown). Follows x shown) (sym both) (follows_self shown (shows_first shown offers refl c.requires.small))
