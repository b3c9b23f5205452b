use Rattle.std.proofs.Common.{◌++◌, ◌∷◌, [], sym, ap, ◌∙◌, arith, take}
use Rattle.std.specs.Prelude.{List}
use Rattle.model_values.specs.Value.{Val}
use Rattle.lasp_value.specs.Value.{val_of}
use Rattle.lasp_drive.proofs.PlayLaws.{take-at}
use Rattle.lasp_live.proofs.commands.copy_values.Goals as goal

pub loop-i-preserved : goal.loop-i-preserved
loop-i-preserved c = record {
  within = omega (arith, c.loop-i-test.true, c.len-i-end.ensures);
  so_far = c.in_ok-push.ensures.ok ∙ ap (λ (vs : List Val). vs ++ val_of c.in_ok-try_clone.field-0 ∷ []) c.loop-i.invariant.so_far
      ∙ ap (λ (v : Val). take c.loop-i.i c.args.values.now ++ v ∷ []) c.in_ok-try_clone.ensures ∙ sym (take-at c.args.values.now c.loop-i.i (val_of c.at.result.now) c.at.ensures);
}
