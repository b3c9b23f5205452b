use Rattle.std.proofs.Common.{◌∙◌, refl, sym, ap, Err}
use Rattle.model_sets.specs.Rows.{join}
use Rattle.model_states.specs.Content.{of_set, row_limit}
use Rattle.lasp_setops.specs.declared.refused.SetRefused.TheVariants.{TooManyRows}
use Rattle.lasp_setops.proofs.JoinLaws.{passed-on-set}
use Rattle.lasp_graph.specs.Kind.{kind_of}
use Rattle.lasp_graph.proofs.DeltaLaws.{width-change, set-gained, long-gained, long-joined}
use Rattle.lasp_graph.proofs.increment.set_gain.Goals as goal

pub gained_rows-requires-clause-width : goal.gained_rows-requires-clause-width
gained_rows-requires-clause-width g c = width-change c.requires.old.first c.args.x_change.now c.args.x.now c.requires.old.first_grown c.requires.width

pub returns-in_err-rows-clause-too_many : goal.returns-in_err-rows-clause-too_many
returns-in_err-rows-clause-too_many g c =
    λ e. long-gained row_limit (kind_of c.args.kind.now) c.args.x_change.now c.args.x.now c.args.y_change.now c.args.y.now c.args.old.now c.requires.old
    (c.gained_rows.ensures.too_many (c.in_err-rows.was ∙ ap Err (passed-on-set c.from_residual.result c.in_err-rows.field-0.0 TooManyRows c.from_residual.ensures.1 e)))

pub returns-in_err-all-clause-too_many : goal.returns-in_err-all-clause-too_many
returns-in_err-all-clause-too_many g c =
    λ e. long-joined row_limit (kind_of c.args.kind.now) c.args.x_change.now c.args.x.now c.args.y_change.now c.args.y.now c.args.old.now c.in_ok-rows.rows (join c.args.old.now c.in_ok-rows.rows) c.requires.old c.in_ok-rows.ensures.ok refl
    (c.union_sets.ensures.too_many (c.in_err-all.was ∙ ap Err (passed-on-set c.from_residual-in_err-all.result c.in_err-all.field-0.0 TooManyRows c.from_residual-in_err-all.ensures.1 e)))

pub returns-clause-ok : goal.returns-clause-ok
returns-clause-ok g c =
    set-gained (kind_of c.args.kind.now) c.args.x_change.now c.args.x.now c.args.y_change.now c.args.y.now c.args.old.now c.requires.old
    ∙ ap of_set ((λ i. join c.args.old.now (sym c.in_ok-rows.ensures.ok i)) ∙ sym c.in_ok-all.ensures.ok)
