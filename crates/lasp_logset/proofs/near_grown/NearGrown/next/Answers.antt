use Rattle.std.proofs.Common.{◌≡◌, List, [], ◌++◌, ◌∷◌, Option, Some, None, sym, ap, ◌∙◌}
use Rattle.std.specs.Option.{IfNone}
use Rattle.model_values.specs.Row.{Row}
use Rattle.lasp_logset.specs.Whole.{standing}
use Rattle.lasp_logset.proofs.near_grown.NearGrown.next.Goals as goal

pub returns-in-Some-clause-some : goal.returns-in-Some-clause-some
returns-in-Some-clause-some c = sym c.self.view_is ∙ ap (λ (s : List Row). s ++ standing c.self.inside.known c.self.inside.left) c.in-Some.ensures.some

pub returns-clause-some : goal.returns-clause-some
returns-clause-some c =
    let row = sym (c.of.ensures ∙ (λ i. (c.name.ensures i, c.is_dead.ensures i))) in
    sym c.self.view_is ∙ ap (λ (s : List Row). s ++ standing c.self.inside.known c.self.inside.left) c.in_default.ensures.none ∙ c.in_ok-entry.ensures.some
    ∙ (λ i. row i ∷ (standing c.self.inside.known (sym c.in_default.ensures.ended i) ++ standing c.self.inside.known c.next_standing.new.left))

-- what holds holds of nothing
if-none : {A : Type 0} (found : Option A) (X : Type 0) → X → IfNone found X
if-none None X h = h
if-none (Some a) X h = tt

pub returns-in_err-entry-clause-none : goal.returns-in_err-entry-clause-none
returns-in_err-entry-clause-none c =
    if-none c.from_residual.result (c.args.self.now ≡ [])
    (sym c.self.view_is ∙ ap (λ (s : List Row). s ++ standing c.self.inside.known c.self.inside.left) c.in_default.ensures.none ∙ c.in_err-entry.ensures.none)
