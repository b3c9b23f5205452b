use Rattle.std.proofs.Common.{◌≡◌, ap, ◌∙◌}
use Rattle.model_states.specs.Counts.{larger}
use Rattle.model_dots.specs.Loops.{weave}
use Rattle.lasp_dots.proofs.SetLaws.{joined, joined-state}
use Rattle.lasp_dots.proofs.set.DotSet.join_all.Goals as goal

pub invariant_of-self : goal.invariant_of-self
invariant_of-self c =
    let rows : c.self.inside.live ≡ c.args.self.now.rows = ap (λ z. z.rows) c.self.view_is in
    let known : c.deref.result.now ≡ c.args.self.now.counts = c.deref.ensures.value ∙ ap (λ z. z.counts) c.self.view_is in
    let other_rows : c.other.inside.live ≡ c.args.other.now.rows = ap (λ z. z.rows) c.other.view_is in
    let others : c.deref-2.result.now ≡ c.args.other.now.counts = c.deref-2.ensures.value ∙ ap (λ z. z.counts) c.other.view_is in
    let last : c.deref-3.result.now ≡ c.args.other.now.counts = c.deref-3.ensures.value ∙ ap (λ z. z.counts) c.other.view_is in
    let own : c.self.inside.known.items ≡ c.args.self.now.counts = ap (λ z. z.counts) c.self.view_is in
    joined-state c.args.self.now c.args.other.now c.in_ok-self-inside.field-0 c.raise.new.counts.items c.holds.ensures c.holds-2.ensures c.requires
    (c.in_ok-self-inside.ensures ∙ (λ i. weave (known i) (others i) (rows i) (other_rows i))) (c.raise.ensures ∙ (λ i. larger (own i) (last i)))

pub returns-clause-ok : goal.returns-clause-ok
returns-clause-ok c =
    let rows : c.self.inside.live ≡ c.args.self.now.rows = ap (λ z. z.rows) c.self.view_is in
    let known : c.deref.result.now ≡ c.args.self.now.counts = c.deref.ensures.value ∙ ap (λ z. z.counts) c.self.view_is in
    let other_rows : c.other.inside.live ≡ c.args.other.now.rows = ap (λ z. z.rows) c.other.view_is in
    let others : c.deref-2.result.now ≡ c.args.other.now.counts = c.deref-2.ensures.value ∙ ap (λ z. z.counts) c.other.view_is in
    let last : c.deref-3.result.now ≡ c.args.other.now.counts = c.deref-3.ensures.value ∙ ap (λ z. z.counts) c.other.view_is in
    let own : c.self.inside.known.items ≡ c.args.self.now.counts = ap (λ z. z.counts) c.self.view_is in
    joined c.args.self.now c.args.other.now c.in_ok-self-inside.field-0 c.raise.new.counts.items c.holds.ensures c.holds-2.ensures
    (c.in_ok-self-inside.ensures ∙ (λ i. weave (known i) (others i) (rows i) (other_rows i))) (c.raise.ensures ∙ (λ i. larger (own i) (last i)))
