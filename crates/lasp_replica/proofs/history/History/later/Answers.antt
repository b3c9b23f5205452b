use Rattle.std.proofs.Common.{◌≤◌, ◌++◌, ◌-◌, length, drop, ap, ◌∙◌, arith}
use Rattle.lasp_replica.specs.Kept.{Kept}
use Rattle.lasp_replica.proofs.KeptLaws.{behind-first, left-out}
use Rattle.lasp_replica.proofs.history.History.later.Goals as goal

pub overflow_sub-behind_first : goal.overflow_sub-behind_first
overflow_sub-behind_first c =
    let kept = c.self.inside in
    omega (
      arith,
      c.rows.ensures.exact,
      left-out c.args.n (length kept.first) c.rows_before-left_out.result (kept.first ++ kept.log.items) kept.growths.items c.args.self.now.history.growths c.self.invariant.sound c.self.invariant.covered
          (ap (λ (k : Kept). k.history.growths) c.self.view_is) c.rows_before-left_out.ensures.exact c.if-left_out-eq0.false,
    )

pub returns-clause-some : goal.returns-clause-some
returns-clause-some c =
    let kept = c.self.inside in
    let left = c.rows_before-left_out.result in
    let low : length kept.first ≤ left = left-out c.args.n (length kept.first) left (kept.first ++ kept.log.items) kept.growths.items c.args.self.now.history.growths c.self.invariant.sound c.self.invariant.covered
    (ap (λ (k : Kept). k.history.growths) c.self.view_is) c.rows_before-left_out.ensures.exact c.if-left_out-eq0.false in
    let rest = behind-first kept.first kept.log.items c.deref.result.now left (left - c.rows.result) c.deref.ensures.value low (ap (λ n. left - n) c.rows.ensures.exact) in
    rest ∙ (λ i. drop (c.rows_before-left_out.ensures.exact i) ((ap (λ (k : Kept). k.history.log) c.self.view_is) i))
