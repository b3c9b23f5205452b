use Rattle.std.proofs.Common.{◌≡◌, ◌∙◌, sym, ap, unwrap_or}
use Rattle.std.proofs.lemmas.Int.{to_z-of_z}
use mir.Syntax.{w64}
use Rattle.model_functions.specs.Lift.{LiftOp, One, lifted}
use Rattle.lasp_value.specs.Value.{val_of}
use Rattle.lasp_fns.specs.Library.{lift_op_at}
use Rattle.lasp_fns.specs.Steps.{library_of}
use Rattle.lasp_fns.proofs.steps.StepLib.call_lift.Goals as goal

pub returns-clause-answer : goal.returns-clause-answer
returns-clause-answer g c = let same : c.call.result ≡ lifted (lift_op_at (library_of c.args.self.now) c.args.i) (val_of c.args.v.now) =
    c.call.ensures ∙ ap (λ (op : LiftOp). lifted op (val_of c.args.v.now)) (sym (ap (λ l. lift_op_at l c.args.i) (sym c.tick.ensures.library) ∙ ap (λ o. unwrap_or o One) c.lift_at.ensures)) in
    to_z-of_z w64 c.call.result record { sfits = c.call.type_inv } ∙ same
