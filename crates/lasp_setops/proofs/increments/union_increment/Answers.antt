use Rattle.std.proofs.Common.{◌≡◌, ◌∙◌, ◌<◌, List, length, subst}
use Rattle.std.proofs.lemmas.Result.{IfOk-weaker}
use Rattle.model_values.specs.Row.{Row}
use Rattle.model_sets.specs.Rows.{join}
use Rattle.model_states.specs.Content.{row_limit}
use Rattle.lasp_setops.proofs.GrownLaws.{union-gain}
use Rattle.lasp_setops.proofs.increments.union_increment.Goals as goal

pub returns-clause-ok : goal.returns-clause-ok
returns-clause-ok c =
    IfOk-weaker c.union_sets.result (λ (s : List Row). s ≡ join c.args.old.now c.in_ok-gain.gain) _ (λ s all x x_after y y_after h k is. all ∙ (union-gain x c.args.x_change.now x_after y c.args.y_change.now y_after c.args.old.now c.in_ok-gain.gain c.in_ok-gain.ensures h k is)) c.union_sets.ensures.ok

pub returns-clause-too_many : goal.returns-clause-too_many
returns-clause-too_many c =
    λ e x x_after y y_after h k is. subst (λ (s : List Row). row_limit < length s) (union-gain x c.args.x_change.now x_after y c.args.y_change.now y_after c.args.old.now c.in_ok-gain.gain c.in_ok-gain.ensures h k is) (c.union_sets.ensures.too_many e)
