use Rattle.std.proofs.Common.{◌≡◌, ◌∙◌, sym, ap, subst, List, [], unwrap_or}
use Rattle.model_functions.specs.Map.{MapOp}
use Rattle.lasp_value.specs.Value.{val_of}
use Rattle.lasp_fns.specs.Answers.{Answers}
use Rattle.lasp_fns.specs.Library.{map_ops_at}
use Rattle.lasp_fns.proofs.steps.StepLib.call_map.Goals as goal

pub returns-clause-answer : goal.returns-clause-answer
returns-clause-answer g c =
    subst (λ (ops : List MapOp). Answers ops (val_of c.args.v.now) c.call.result) (sym (ap (λ l. map_ops_at l c.args.i) (sym c.tick.ensures.library) ∙ ap (λ o. unwrap_or o []) c.map_at.ensures)) c.call.ensures
