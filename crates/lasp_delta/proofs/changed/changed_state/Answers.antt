use Rattle.std.proofs.Common.{length, sym, ap, ◌∙◌}
use Rattle.model_states.specs.Threshold.{counter}
use Rattle.model_deltas.proofs.ChangeLaws.{length-changed_counts}
use Rattle.lasp_state.specs.State.{shape_of}
use Rattle.lasp_delta.proofs.changed.changed_state.Goals as goal

pub returns-in_ok-other_counts-in-Count-Count-clause-shape : goal.returns-in_ok-other_counts-in-Count-Count-clause-shape
returns-in_ok-other_counts-in-Count-Count-clause-shape c =
    ap counter (ap length c.in_ok-other_counts-in-Count-Count.ensures ∙ length-changed_counts c.in-Count-Count.old c.in-Count-Count.new) ∙ sym (ap shape_of c.in-Count-Count.is-1)
