use Rattle.std.proofs.Common.{◌≡◌, List, ap, subst, nat_lt, ◌∙◌}
use Rattle.std.specs.Arc.{arc_value}
use Rattle.model_values.specs.Row.{Row}
use Rattle.model_sets.specs.Rows.{level, mark, of_rows, put}
use Rattle.lasp_logset.proofs.WholeLaws.{added-rows, known-row}
use Rattle.lasp_logset.proofs.writes.add_shared.Goals as goal

pub returns-in-Some-clause-ok : goal.returns-in-Some-clause-ok
returns-in-Some-clause-ok c = added-rows c.in-Some.set.now c.add.new.self c.args.entry c.in_ok-add.ensures.ok ∙ ap (λ (s : List Row). put c.args.entry (of_rows s)) c.in-Some.ensures.value

pub returns-then-not-raises-clause-ok : goal.returns-then-not-raises-clause-ok
returns-then-not-raises-clause-ok c =
    known-row (arc_value c.args.shared.now) c.args.entry c.raises.result (subst (λ (s : List Row). c.raises.result ≡ nat_lt (mark s c.args.entry.0.0 c.args.entry.0.1) (level c.args.entry.1)) c.deref.ensures c.raises.ensures) c.if-not-raises.true

pub returns-clause-ok : goal.returns-clause-ok
returns-clause-ok c =
    added-rows c.in_ok-grown.grown c.add-2.new.self c.args.entry c.in_ok-add-2.ensures.ok ∙ ap (λ (s : List Row). put c.args.entry (of_rows s)) c.in_ok-grown.ensures
