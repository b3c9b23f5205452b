use Rattle.std.proofs.Common.{◌++◌, ap, ◌∙◌, List, None}
use Rattle.model_values.specs.Value.{Val}
use Rattle.model_values.specs.Row.{Row}
use Rattle.model_sets.specs.Loops.{values_after}
use Rattle.model_sets.proofs.LoopLaws.{values_after-visible}
use Rattle.lasp_dots.proofs.set.DotSet.visible.Goals as goal

pub loop-dot-init : goal.loop-dot-init
loop-dot-init c =
    ap (λ (vs : List Val). vs ++ values_after None c.iter-left.result) c.new-values.ensures
    ∙ ap (λ (s : List Row). values_after None s) (c.iter-left.ensures ∙ ap (λ z. z.rows) c.self.view_is)
    ∙ values_after-visible c.args.self.now.rows c.holds.ensures.ascends
