use Rattle.std.proofs.Common.{◌∙◌, ◌<◌, List, length, ap, subst, sym, Err}
use Rattle.model_values.specs.Row.{Row}
use Rattle.model_states.specs.Content.{row_limit}
use Rattle.lasp_setops.specs.declared.refused.SetRefused.TheVariants.{TooManyRows}
use Rattle.lasp_setops.specs.Width.{IsSetOfWidth}
use Rattle.lasp_setops.proofs.JoinLaws.{passed-on-set}
use Rattle.lasp_graph.specs.Delta.{gained}
use Rattle.lasp_graph.specs.Kind.{kind_of}
use Rattle.lasp_graph.proofs.increment.list_of_gained.Goals as goal

pub gained_rows-requires-clause-width : goal.gained_rows-requires-clause-width
gained_rows-requires-clause-width g c = subst (IsSetOfWidth 16) (sym c.in_ok-first.ensures) c.requires.width

pub returns-in_err-rows-clause-too_many : goal.returns-in_err-rows-clause-too_many
returns-in_err-rows-clause-too_many g c =
    λ e. subst (λ (p : List Row × List Row). row_limit < length (gained (kind_of c.args.kind.now) p.0 c.args.x.now p.1 c.args.y.now)) (λ i. (c.in_ok-first.ensures i, c.in_ok-second.ensures i))
    (c.gained_rows.ensures.too_many (c.in_err-rows.was ∙ ap Err (passed-on-set c.from_residual-in_err-rows.result c.in_err-rows.field-0.0 TooManyRows c.from_residual-in_err-rows.ensures.1 e)))

pub returns-clause-ok : goal.returns-clause-ok
returns-clause-ok g c =
    c.into_rows.ensures.rows ∙ c.in_ok-list.ensures ∙ c.in_ok-rows.ensures.ok ∙ (λ i. gained (kind_of c.args.kind.now) (c.in_ok-first.ensures i) c.args.x.now (c.in_ok-second.ensures i) c.args.y.now)
