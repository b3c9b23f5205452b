use Rattle.model_states.proofs.ThresholdLaws.{at_least-grows, above-grows}
use Rattle.model_states.proofs.thresholds.thresholds_are_upward_closed.Goals as goal

pub returns-clause-at_least : goal.returns-clause-at_least
returns-clause-at_least c = at_least-grows

pub returns-clause-above : goal.returns-clause-above
returns-clause-above c = above-grows
