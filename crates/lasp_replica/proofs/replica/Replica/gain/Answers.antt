use Rattle.std.proofs.Common.{ℕ, ◌≡◌, ◌+◌, Some, slice_get, true, false, arith, sym, ap, subst, ◌∙◌}
use Rattle.std.proofs.lemmas.Bool.{leb-true, leb-false, lt-ltb, le-ltb}
use Rattle.std.specs.Arc.{arc_value}
use Rattle.model_states.specs.Content.{join_contents}
use Rattle.model_states.specs.Update.{delta}
use Rattle.lasp_state.specs.State.{op_of, content_of}
use Rattle.lasp_replica.proofs.UpdateLaws.{checked, state-found, suited, count-found, gained, refusal}
use Rattle.lasp_replica.proofs.replica.Replica.gain.Goals as goal
use Rattle.lasp_replica.proofs.TakeLaws.{states-at}

pub overflow_add-k : goal.overflow_add-k
overflow_add-k c =
    let few = (checked c.args.self.now c.args.var c.args.op.now c.in_ok-check_update.ensures).few in
    let at = count-found c.args.self.now c.at-k.result (subst (λ (i : ℕ). slice_get c.args.self.now.counts i ≡ Some c.at-k.result) c.from.ensures c.at-k.ensures) in
    omega (arith, few, at)

pub at-requires : goal.at-requires
at-requires c =
    states-at c.args.self.now c.requires c.args.var c.from-2.result c.from-2.ensures (checked c.args.self.now c.args.var c.args.op.now c.in_ok-check_update.ensures).declared

pub change-requires : goal.change-requires
change-requires c =
    suited c.args.self.now c.args.var c.args.op.now c.deref-state.result.now c.requires (checked c.args.self.now c.args.var c.args.op.now c.in_ok-check_update.ensures)
    (state-found c.args.self.now.states c.args.var c.from-2.result (arc_value c.at.result.now) c.deref-state.result.now c.from-2.ensures c.at.ensures c.deref-state.ensures)

pub brought-requires : goal.brought-requires
brought-requires c = sym c.in_ok-whole.ensures.shape

pub fits-requires : goal.fits-requires
fits-requires c = sym (c.in_ok-delta.ensures.shape ∙ c.in_ok-whole.ensures.shape)

pub returns-then-not-fits-clause-answer : goal.returns-then-not-fits-clause-answer
returns-then-not-fits-clause-answer c =
    let count = count-found c.args.self.now c.at-k.result (subst (λ (i : ℕ). slice_get c.args.self.now.counts i ≡ Some c.at-k.result) c.from.ensures c.at-k.ensures) in
    let found = state-found c.args.self.now.states c.args.var c.from-2.result (arc_value c.at.result.now) c.deref-state.result.now c.from-2.ensures c.at.ensures c.deref-state.ensures in
    refusal c.args.self.now c.args.var c.args.op.now c.deref-state.result.now c.in_ok-delta.delta c.in_ok-check_update.ensures found
    (c.in_ok-delta.ensures.joined ∙ c.in_ok-whole.ensures.content ∙ ap (λ (n : ℕ). join_contents (content_of c.deref-state.result.now) (delta (op_of c.args.op.now) (content_of c.deref-state.result.now) c.args.self.now.me (n + 1))) (sym count)) true
    (lt-ltb _ _ (leb-false _ _ (sym c.fits.ensures ∙ c.if-not-fits.true)))

pub returns-clause-ok : goal.returns-clause-ok
returns-clause-ok c =
    let count = count-found c.args.self.now c.at-k.result (subst (λ (i : ℕ). slice_get c.args.self.now.counts i ≡ Some c.at-k.result) c.from.ensures c.at-k.ensures) in
    let found = state-found c.args.self.now.states c.args.var c.from-2.result (arc_value c.at.result.now) c.deref-state.result.now c.from-2.ensures c.at.ensures c.deref-state.ensures in
    gained c.args.self.now c.args.var c.args.op.now c.deref-state.result.now c.in_ok-delta.delta c.requires (checked c.args.self.now c.args.var c.args.op.now c.in_ok-check_update.ensures) found
    (c.in_ok-delta.ensures.joined ∙ c.in_ok-whole.ensures.content ∙ ap (λ (n : ℕ). join_contents (content_of c.deref-state.result.now) (delta (op_of c.args.op.now) (content_of c.deref-state.result.now) c.args.self.now.me (n + 1))) (sym count))
    c.recall.ensures.ordered (c.in_ok-delta.ensures.shape ∙ c.in_ok-whole.ensures.shape) (leb-true _ _ (sym c.fits.ensures ∙ c.if-not-fits.false))

pub returns-clause-answer : goal.returns-clause-answer
returns-clause-answer c =
    let count = count-found c.args.self.now c.at-k.result (subst (λ (i : ℕ). slice_get c.args.self.now.counts i ≡ Some c.at-k.result) c.from.ensures c.at-k.ensures) in
    let found = state-found c.args.self.now.states c.args.var c.from-2.result (arc_value c.at.result.now) c.deref-state.result.now c.from-2.ensures c.at.ensures c.deref-state.ensures in
    refusal c.args.self.now c.args.var c.args.op.now c.deref-state.result.now c.in_ok-delta.delta c.in_ok-check_update.ensures found
    (c.in_ok-delta.ensures.joined ∙ c.in_ok-whole.ensures.content ∙ ap (λ (n : ℕ). join_contents (content_of c.deref-state.result.now) (delta (op_of c.args.op.now) (content_of c.deref-state.result.now) c.args.self.now.me (n + 1))) (sym count)) false
    (le-ltb _ _ (leb-true _ _ (sym c.fits.ensures ∙ c.if-not-fits.false)))
