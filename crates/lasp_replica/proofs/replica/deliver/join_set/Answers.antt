use Rattle.std.proofs.Common.{rules, ◌≡◌, ℕ, ◌<◌, Some, refl, sym, ap, subst, ◌∙◌, arith}
use Rattle.std.proofs.lemmas.Bool.{leb-true, leb-false}
use Rattle.std.specs.Prelude.{slice_get}
use Rattle.model_states.specs.Content.{join_contents, of_set, size_of, row_limit}
use Rattle.lasp_state.specs.declared.state.State.{State}
use Rattle.lasp_state.specs.State.{content_of}
use Rattle.lasp_graph.specs.States.{held_of}
use Rattle.lasp_replica.proofs.NewsLaws.{size-news, taken-none, taken-news}
use Rattle.lasp_replica.proofs.replica.deliver.join_set.Goals as goal

pub returns-then-rows-eq0-clause-ok : goal.returns-then-rows-eq0-clause-ok
returns-then-rows-eq0-clause-ok c =
    let there : slice_get c.args.states.now c.args.x ≡ Some (held_of c.deref-state.result.now) = c.at.ensures ∙ ap (λ (s : State). Some (held_of s)) (sym c.deref-state.ensures) in
    taken-none c.args.states.now c.args.x c.deref-state.result.now there c.args.sent.now c.requires.joinable.shape c.requires.kind
    c.in_ok-rows.rows c.in_ok-rows.ensures c.args.history.now (omega (arith, c.rows-2.ensures.exact, c.if-rows-eq0.true)) c.recall.ensures.ordered c.requires.small

pub returns-then-not-fits_with-clause-refused : goal.returns-then-not-fits_with-clause-refused
returns-then-not-fits_with-clause-refused c =
    let there : slice_get c.args.states.now c.args.x ≡ Some (held_of c.deref-state.result.now) = c.at.ensures ∙ ap (λ (s : State). Some (held_of s)) (sym c.deref-state.ensures) in
    let size = size_of (join_contents (content_of c.deref-state.result.now) (of_set c.in_ok-rows.rows)) in (
      refl,
      subst (λ (n : ℕ). row_limit < n) (size-news c.args.states.now c.args.x c.deref-state.result.now there c.args.sent.now c.requires.joinable.shape c.requires.kind c.in_ok-rows.rows c.in_ok-rows.ensures size refl)
          (leb-false size row_limit (sym c.fits_with.ensures ∙ c.if-not-fits_with.true)),
    )

pub returns-clause-ok : goal.returns-clause-ok
returns-clause-ok c =
    let there : slice_get c.args.states.now c.args.x ≡ Some (held_of c.deref-state.result.now) = c.at.ensures ∙ ap (λ (s : State). Some (held_of s)) (sym c.deref-state.ensures) in
    let size = size_of (join_contents (content_of c.deref-state.result.now) (of_set c.in_ok-rows.rows)) in
    taken-news c.args.states.now c.args.x c.deref-state.result.now there c.args.sent.now c.requires.joinable.shape c.requires.kind
    c.in_ok-rows.rows c.in_ok-rows.ensures c.join_at.new.self c.prepare.new.self size c.requires.within
    (λ none. omega (arith, none, c.rows-2.ensures.exact, c.if-rows-eq0.false)) refl (leb-true size row_limit (sym c.fits_with.ensures ∙ c.if-not-fits_with.false)) c.in_ok-prepare.ensures.prepared (record { made = c.in_ok-prepare.ensures.pending ∙ search rules; apart = c.in_ok-prepare.ensures.apart }) c.in_ok-join_at.ensures.ok
