use Rattle.std.proofs.Common.{◌≡◌, ◌∙◌, ◌<◌, List, length, ap, subst, Err}
use Rattle.std.proofs.lemmas.Result.{IfOk-weaker}
use Rattle.model_values.specs.Row.{Row}
use Rattle.model_sets.specs.Rows.{join}
use Rattle.model_states.specs.Content.{row_limit}
use Rattle.lasp_setops.specs.declared.refused.SetRefused.TheVariants.{TooManyRows}
use Rattle.lasp_setops.specs.Prelude.{pair_set}
use Rattle.lasp_setops.proofs.JoinLaws.{gain-long, gain-joined, passed-on-set}
use Rattle.lasp_setops.proofs.PairLaws.{pair-steps}
use Rattle.lasp_setops.proofs.increments.pair_increment.Goals as goal

pub returns-in_err-gain-clause-too_many : goal.returns-in_err-gain-clause-too_many
returns-in_err-gain-clause-too_many c =
    λ e x y h k is. gain-long row_limit c.args.old.now (pair_set c.args.pairing c.args.x_change.now c.args.y.now) (pair_set c.args.pairing c.args.x.now c.args.y_change.now) (pair_set c.args.pairing c.args.x.now c.args.y.now)
    (pair-steps c.args.pairing x c.args.x_change.now c.args.x.now y c.args.y_change.now c.args.y.now c.args.old.now h k is)
    (c.pair_gain.ensures.too_many (c.in_err-gain.was ∙ ap Err (passed-on-set c.from_residual.result c.in_err-gain.field-0.0 TooManyRows c.from_residual.ensures.1 e)))

pub returns-clause-ok : goal.returns-clause-ok
returns-clause-ok c =
    IfOk-weaker c.union_sets.result (λ (s : List Row). s ≡ join c.args.old.now c.in_ok-gain.gain) _
    (λ s all x y h k is. all ∙ gain-joined c.in_ok-gain.gain c.args.old.now (pair_set c.args.pairing c.args.x_change.now c.args.y.now) (pair_set c.args.pairing c.args.x.now c.args.y_change.now) (pair_set c.args.pairing c.args.x.now c.args.y.now) c.in_ok-gain.ensures.ok
    (pair-steps c.args.pairing x c.args.x_change.now c.args.x.now y c.args.y_change.now c.args.y.now c.args.old.now h k is))
    c.union_sets.ensures.ok

pub returns-clause-too_many : goal.returns-clause-too_many
returns-clause-too_many c =
    λ e x y h k is. subst (λ (s : List Row). row_limit < length s)
    (gain-joined c.in_ok-gain.gain c.args.old.now (pair_set c.args.pairing c.args.x_change.now c.args.y.now) (pair_set c.args.pairing c.args.x.now c.args.y_change.now) (pair_set c.args.pairing c.args.x.now c.args.y.now) c.in_ok-gain.ensures.ok
    (pair-steps c.args.pairing x c.args.x_change.now c.args.x.now y c.args.y_change.now c.args.y.now c.args.old.now h k is))
    (c.union_sets.ensures.too_many e)
