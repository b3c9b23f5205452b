use Rattle.std.proofs.Common.{◌≡◌, ◌↔◌, IsTrue, List, ℕ, ap, ◌∙◌, subst}
use Rattle.std.specs.List.{list_all}
use Rattle.model_states.specs.Counts.{AreCountsAtMost}
use Rattle.model_dots.specs.Dots.{outlives}
use Rattle.lasp_dots.proofs.SetLaws.{order-there, order-nowhere}
use Rattle.lasp_dots.proofs.set.DotSet.le.Goals as goal

pub returns-then-are_at_most : goal.returns-then-are_at_most
returns-then-are_at_most c =
    let counts : c.deref.result.now ≡ c.args.self.now.counts = c.deref.ensures.value ∙ ap (λ z. z.counts) c.self.view_is in
    let others : c.deref-2.result.now ≡ c.args.other.now.counts = c.deref-2.ensures.value ∙ ap (λ z. z.counts) c.other.view_is in
    let rows : c.self.inside.live ≡ c.args.self.now.rows = ap (λ z. z.rows) c.self.view_is in
    let known : c.deref-then-are_at_most.result.now ≡ c.args.self.now.counts = c.deref-then-are_at_most.ensures.value ∙ ap (λ z. z.counts) c.self.view_is in
    let other_rows : c.other.inside.live ≡ c.args.other.now.rows = ap (λ z. z.rows) c.other.view_is in
    order-there c.args.self.now c.args.other.now c.holds.ensures c.holds-2.ensures c.requires
    (subst (λ (a : List ℕ). AreCountsAtMost a c.args.other.now.counts) counts (subst (λ (b : List ℕ). AreCountsAtMost c.deref.result.now b) others (c.are_at_most.ensures.0 c.if-are_at_most.true)))
    c.all_outlive.result (c.all_outlive.ensures ∙ (λ i. list_all (λ r. outlives (record { rows = rows i; counts = known i }) r.0) (other_rows i)))

pub returns-else-are_at_most : goal.returns-else-are_at_most
returns-else-are_at_most c =
    let counts : c.deref.result.now ≡ c.args.self.now.counts = c.deref.ensures.value ∙ ap (λ z. z.counts) c.self.view_is in
    let others : c.deref-2.result.now ≡ c.args.other.now.counts = c.deref-2.ensures.value ∙ ap (λ z. z.counts) c.other.view_is in
    order-nowhere c.args.self.now c.args.other.now c.holds.ensures c.holds-2.ensures c.requires c.are_at_most.result
    (subst (λ (a : List ℕ). IsTrue c.are_at_most.result ↔ AreCountsAtMost a c.args.other.now.counts) counts
    (subst (λ (b : List ℕ). IsTrue c.are_at_most.result ↔ AreCountsAtMost c.deref.result.now b) others c.are_at_most.ensures)) c.if-are_at_most.false
