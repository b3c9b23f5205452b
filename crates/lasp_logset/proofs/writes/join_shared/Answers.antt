use Rattle.std.proofs.Common.{◌↔◌, IsTrue, List, refl, ap, subst, ◌∙◌}
use Rattle.std.specs.Arc.{arc_value}
use Rattle.model_values.specs.Row.{Row}
use Rattle.model_sets.specs.Rows.{IsAtMost, of_rows, join}
use Rattle.lasp_logset.proofs.WholeLaws.{covered-join, joined-rows}
use Rattle.lasp_logset.proofs.GrownLaws.{joined-differs}
use Rattle.lasp_logset.proofs.writes.join_shared.Goals as goal

pub returns-in-Some-clause-ok : goal.returns-in-Some-clause-ok
returns-in-Some-clause-ok c =
    joined-rows c.in-Some.set.now c.join_log.new.self c.log-log.result.now.items c.in_ok-grew.ensures.ok ∙ (λ i. join (of_rows (c.in-Some.ensures.value i)) (c.log-log.ensures.rows i))

pub returns-then-covers-clause-ok : goal.returns-then-covers-clause-ok
returns-then-covers-clause-ok c =
    covered-join (arc_value c.args.shared.now) c.log-log.result.now.items c.covers.result (subst (λ (s : List Row). IsTrue c.covers.result ↔ IsAtMost c.log-log.result.now.items s) c.deref.ensures c.covers.ensures) c.if-covers.true
    ∙ ap (λ (s : List Row). join (of_rows (arc_value c.args.shared.now)) s) c.log-log.ensures.rows

pub returns-clause-ok : goal.returns-clause-ok
returns-clause-ok c =
    joined-rows (arc_value c.args.shared.now) c.in_ok-grown.grown c.in_ok-rows.rows c.in_ok-grown.ensures ∙ ap (λ (s : List Row). join (of_rows (arc_value c.args.shared.now)) s) c.in_ok-rows.ensures.rows

pub returns-clause-grew : goal.returns-clause-grew
returns-clause-grew c = (
  λ _. joined-differs (arc_value c.args.shared.now) c.in_ok-grown.grown c.log-log.result.now.items c.args.other.now c.covers.result
      (joined-rows (arc_value c.args.shared.now) c.in_ok-grown.grown c.in_ok-rows.rows c.in_ok-grown.ensures ∙ ap (λ (s : List Row). join (of_rows (arc_value c.args.shared.now)) s) c.in_ok-rows.ensures.rows) c.log-log.ensures.rows
      (subst (λ (s : List Row). IsTrue c.covers.result ↔ IsAtMost c.log-log.result.now.items s) c.deref.ensures c.covers.ensures) c.if-covers.false,
  λ _. refl,
)
