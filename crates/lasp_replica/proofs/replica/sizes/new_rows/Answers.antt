use Rattle.std.proofs.Common.{sym, subst, ◌∙◌}
use Rattle.std.specs.Prelude.{List, IfOk, ◌≡◌}
use Rattle.model_values.specs.Row.{Row}
use Rattle.lasp_replica.proofs.NewsLaws.{all-new}
use Rattle.lasp_replica.proofs.replica.sizes.new_rows.Goals as goal

pub returns-then-rows-eq0 : goal.returns-then-rows-eq0
returns-then-rows-eq0 c =
    subst (λ (rows : List Row). IfOk c.past.result (λ s. s ≡ rows)) (sym (all-new c.args.before.now c.args.after.now (sym c.rows.ensures.exact ∙ c.if-rows-eq0.true))) c.past.ensures
