use Rattle.std.proofs.Common.{◌≡◌, ◌++◌, ◌∷◌, [], List, ap, ◌∙◌, refl}
use Rattle.model_values.specs.Row.{Row}
use Rattle.model_sets.specs.Rows.{of_rows, put}
use Rattle.model_sets.specs.Equations.{changed}
use Rattle.lasp_logset.specs.Whole.{log_in}
use Rattle.lasp_logset.proofs.WholeLaws.{added-rows}
use Rattle.lasp_logset.proofs.GrownLaws.{made-on_ok, any-on_err}
use Rattle.lasp_logset.proofs.writes.add_kept.Goals as goal

pub returns-then-is_short-clause-ok : goal.returns-then-is_short-clause-ok
returns-then-is_short-clause-ok c =
    rw c.in-Past.is
    (made-on_ok c.add.result (c.add.new.self ≡ c.in-Past.grown ++ changed c.in-Past.grown (c.args.entry ∷ [])) (of_rows c.add.new.self ≡ put c.args.entry (of_rows c.in-Past.grown)) c.add.ensures.ok (added-rows c.in-Past.grown c.add.new.self c.args.entry))

pub returns-in_ok-new-in-Past-clause-ok : goal.returns-in_ok-new-in-Past-clause-ok
returns-in_ok-new-in-Past-clause-ok c =
    rw c.in-Past.is (
    ap (λ (s : List Row). of_rows s) c.in_ok-new-in-Past.ensures.ok ∙ added-rows c.in_ok-set-in-Past.set c.add-in-Past.new.self c.args.entry c.in_ok-add-in-Past.ensures.ok
    ∙ ap (λ (s : List Row). put c.args.entry (of_rows s)) (c.in_ok-set-in-Past.ensures ∙ c.past.ensures)
    )

pub returns-in_err-add-in-Past-clause-err : goal.returns-in_err-add-in-Past-clause-err
returns-in_err-add-in-Past-clause-err c = any-on_err c.from_residual-in_err-add-in-Past.result (of_rows c.in-Past.grown ≡ of_rows (log_in c.args.kept.now)) (rw c.in-Past.is refl)
