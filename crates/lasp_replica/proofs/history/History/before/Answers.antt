use Rattle.std.proofs.Common.{◌≡◌, ◌≤◌, ◌++◌, ◌-◌, List, length, take, ap, subst, sym, ◌∙◌, arith}
use Rattle.std.specs.Prelude.{IfOk}
use Rattle.model_values.specs.Row.{Row}
use Rattle.model_sets.specs.Rows.{of_rows}
use Rattle.lasp_replica.specs.Kept.{Kept}
use Rattle.lasp_replica.proofs.KeptLaws.{joined-before, left-out}
use Rattle.lasp_replica.proofs.history.History.before.Goals as goal

pub overflow_sub-behind_first : goal.overflow_sub-behind_first
overflow_sub-behind_first c =
    let kept = c.self.inside in
    omega (
      arith,
      c.rows.ensures.exact,
      left-out c.args.n (length kept.first) c.rows_before-count.result (kept.first ++ kept.log.items) kept.growths.items c.args.self.now.history.growths c.self.invariant.sound c.self.invariant.covered
          (ap (λ (k : Kept). k.history.growths) c.self.view_is) c.rows_before-count.ensures.exact c.if-count-eq0.false,
    )

pub returns-then-count-eq0 : goal.returns-then-count-eq0
returns-then-count-eq0 c = c.new.ensures ∙ ap (λ n. of_rows (take n c.args.self.now.history.log)) (sym c.if-count-eq0.true ∙ c.rows_before-count.ensures.exact)

pub returns : goal.returns
returns c =
    let kept = c.self.inside in
    let count = c.rows_before-count.result in
    let low : length kept.first ≤ count = left-out c.args.n (length kept.first) count (kept.first ++ kept.log.items) kept.growths.items c.args.self.now.history.growths c.self.invariant.sound c.self.invariant.covered
    (ap (λ (k : Kept). k.history.growths) c.self.view_is) c.rows_before-count.ensures.exact c.if-count-eq0.false in
    let whole = joined-before kept.first kept.log.items c.deref.result.now count (count - c.rows.result) c.deref.ensures.value low (ap (λ n. count - n) c.rows.ensures.exact) c.ascends.ensures in
    subst (λ (rows : List Row). IfOk c.joined.result (λ s. s ≡ rows))
    (whole ∙ (λ i. of_rows (take (c.rows_before-count.ensures.exact i) ((ap (λ (k : Kept). k.history.log) c.self.view_is) i)))) c.joined.ensures
