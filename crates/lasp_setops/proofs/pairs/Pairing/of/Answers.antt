use Rattle.std.proofs.Common.{◌∙◌, ap, Err}
use Rattle.lasp_setops.specs.Prelude.{pair_set, row_limit}
use Rattle.lasp_setops.specs.declared.refused.SetRefused.TheVariants.{TooManyRows}
use Rattle.lasp_setops.proofs.JoinLaws.{join-fresh, long-fresh, passed-on-set}
use Rattle.lasp_setops.proofs.PairLaws.{ascending-pairs}
use Rattle.lasp_setops.proofs.pairs.Pairing.of.Goals as goal

pub returns-in_err-add-clause-too_many : goal.returns-in_err-add-clause-too_many
returns-in_err-add-clause-too_many c =
    λ h. long-fresh row_limit c.empty-out.result (pair_set c.args.self c.args.x.now c.args.y.now) c.empty-out.ensures (ascending-pairs c.args.self c.args.x.now c.args.y.now)
    (c.add.ensures.too_many (c.in_err-add.was ∙ ap Err (passed-on-set c.from_residual.result c.in_err-add.field-0.0 TooManyRows c.from_residual.ensures.1 h)))

pub returns-clause-ok : goal.returns-clause-ok
returns-clause-ok c =
    c.in_ok-add.ensures.ok ∙ join-fresh c.empty-out.result (pair_set c.args.self c.args.x.now c.args.y.now) c.empty-out.ensures (ascending-pairs c.args.self c.args.x.now c.args.y.now)
