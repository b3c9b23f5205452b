use Rattle.std.proofs.Common.{◌∙◌, ◌<◌, List, length, refl, ap, sym, subst, Err}
use Rattle.model_values.specs.Row.{Row}
use Rattle.model_sets.specs.Rows.{join}
use Rattle.model_sets.proofs.RowLaws.{join-at_most-right}
use Rattle.model_states.specs.Content.{row_limit}
use Rattle.lasp_setops.specs.declared.refused.SetRefused.TheVariants.{TooManyRows}
use Rattle.lasp_setops.specs.Prelude.{pair_set}
use Rattle.lasp_setops.proofs.JoinLaws.{long-left, passed-on-set}
use Rattle.lasp_setops.proofs.PairLaws.{ascending-pairs, pairs-monotone}
use Rattle.lasp_setops.proofs.increments.pair_gain.Goals as goal

pub returns-in_err-rows-clause-too_many : goal.returns-in_err-rows-clause-too_many
returns-in_err-rows-clause-too_many c =
    λ e. long-left row_limit (pair_set c.args.pairing c.args.x_change.now c.args.y.now) (pair_set c.args.pairing c.args.x.now c.args.y_change.now) (ascending-pairs c.args.pairing c.args.x_change.now c.args.y.now)
    (c.of.ensures.too_many (c.in_err-rows.was ∙ ap Err (passed-on-set c.from_residual.result c.in_err-rows.field-0.0 TooManyRows c.from_residual.ensures.1 e)))

pub returns-in_err-add-clause-too_many : goal.returns-in_err-add-clause-too_many
returns-in_err-add-clause-too_many c =
    λ e. subst (λ (s : List Row). row_limit < length (join s (pair_set c.args.pairing c.args.x.now c.args.y_change.now))) c.in_ok-rows.ensures.ok
    (c.add.ensures.too_many (c.in_err-add.was ∙ ap Err (passed-on-set c.from_residual-in_err-add.result c.in_err-add.field-0.0 TooManyRows c.from_residual-in_err-add.ensures.1 e)))

pub returns-clause-ok : goal.returns-clause-ok
returns-clause-ok c = c.in_ok-add.ensures.ok ∙ ap (λ (s : List Row). join s (pair_set c.args.pairing c.args.x.now c.args.y_change.now)) c.in_ok-rows.ensures.ok

-- what the changed rows of the second set give is given already
pub returns-then-has_all-clause-ok : goal.returns-then-has_all-clause-ok
returns-then-has_all-clause-ok c =
    c.in_ok-rows.ensures.ok ∙ sym (join-at_most-right (pair_set c.args.pairing c.args.x_change.now c.args.y.now) (pair_set c.args.pairing c.args.x.now c.args.y_change.now) (ascending-pairs c.args.pairing c.args.x_change.now c.args.y.now)
    (pairs-monotone c.args.pairing c.args.x.now c.args.x_change.now c.args.y_change.now c.args.y.now (c.if-has_all.ensures.first refl) (c.if-has_all.ensures.second refl)))
