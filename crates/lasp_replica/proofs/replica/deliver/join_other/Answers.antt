use Rattle.std.proofs.Common.{rules, ◌≡◌, ℕ, ◌<◌, Some, refl, sym, ap, subst, ◌∙◌}
use Rattle.std.proofs.lemmas.Bool.{leb-true, leb-false}
use Rattle.std.specs.Prelude.{slice_get}
use Rattle.model_states.specs.Content.{join_contents, size_of, row_limit}
use Rattle.lasp_state.specs.declared.state.State.{State}
use Rattle.lasp_state.specs.State.{content_of}
use Rattle.lasp_graph.specs.States.{Held, held_of}
use Rattle.lasp_replica.proofs.TakenLaws.{held-here, taken-still, taken-grown, size-here}
use Rattle.lasp_replica.proofs.replica.deliver.join_other.Goals as goal

pub fits-requires : goal.fits-requires
fits-requires c =
    let there : slice_get c.args.states.now c.args.x ≡ Some (held_of c.deref-state.result.now) = c.at.ensures ∙ ap (λ (s : State). Some (held_of s)) (sym c.deref-state.ensures) in
    ap (λ (h : Held). h.shape) (sym (held-here c.args.states.now c.args.x c.deref-state.result.now there)) ∙ c.requires.joinable.shape

pub news-requires : goal.news-requires
news-requires c =
    let there : slice_get c.args.states.now c.args.x ≡ Some (held_of c.deref-state.result.now) = c.at.ensures ∙ ap (λ (s : State). Some (held_of s)) (sym c.deref-state.ensures) in
    ap (λ (h : Held). h.shape) (sym (held-here c.args.states.now c.args.x c.deref-state.result.now there)) ∙ c.requires.joinable.shape

pub returns-then-le-clause-ok : goal.returns-then-le-clause-ok
returns-then-le-clause-ok c =
    let there : slice_get c.args.states.now c.args.x ≡ Some (held_of c.deref-state.result.now) = c.at.ensures ∙ ap (λ (s : State). Some (held_of s)) (sym c.deref-state.ensures) in
    taken-still c.args.states.now c.args.x c.deref-state.result.now there c.args.sent.now c.args.history.now
    (ap (λ (h : Held). h.shape) (sym (held-here c.args.states.now c.args.x c.deref-state.result.now there)) ∙ c.requires.joinable.shape) c.recall.ensures.ordered (c.le.ensures.0 c.if-le.true) c.requires.small

pub returns-then-not-fits-clause-refused : goal.returns-then-not-fits-clause-refused
returns-then-not-fits-clause-refused c =
    let there : slice_get c.args.states.now c.args.x ≡ Some (held_of c.deref-state.result.now) = c.at.ensures ∙ ap (λ (s : State). Some (held_of s)) (sym c.deref-state.ensures) in
    let size = size_of (join_contents (content_of c.deref-state.result.now) (content_of c.args.sent.now)) in
    (refl, subst (λ (n : ℕ). row_limit < n) (size-here c.args.states.now c.args.x c.deref-state.result.now there (content_of c.args.sent.now) size refl) (leb-false size row_limit (sym c.fits.ensures ∙ c.if-not-fits.true)))

pub returns-clause-ok : goal.returns-clause-ok
returns-clause-ok c =
    let there : slice_get c.args.states.now c.args.x ≡ Some (held_of c.deref-state.result.now) = c.at.ensures ∙ ap (λ (s : State). Some (held_of s)) (sym c.deref-state.ensures) in
    let size = size_of (join_contents (content_of c.deref-state.result.now) (content_of c.args.sent.now)) in
    taken-grown c.args.states.now c.args.x c.deref-state.result.now there c.args.sent.now c.join_at.new.self c.prepare.new.self c.in_ok-rows.rows size c.requires.within
    (λ below. let t = c.le.ensures.1 below in absurd (search rules)) refl (leb-true size row_limit (sym c.fits.ensures ∙ c.if-not-fits.false)) c.in_ok-rows.ensures c.in_ok-prepare.ensures.prepared (record { made = c.in_ok-prepare.ensures.pending ∙ search rules; apart = c.in_ok-prepare.ensures.apart }) c.in_ok-join_at.ensures.ok
