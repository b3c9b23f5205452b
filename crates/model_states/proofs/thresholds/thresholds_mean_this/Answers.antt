use Rattle.model_states.proofs.ThresholdLaws.{at_least-words, above-words, above-other}
use Rattle.model_states.proofs.thresholds.thresholds_mean_this.Goals as goal

pub returns-clause-at_least : goal.returns-clause-at_least
returns-clause-at_least c = at_least-words

pub returns-clause-above : goal.returns-clause-above
returns-clause-above c = above-words

pub returns-clause-other : goal.returns-clause-other
returns-clause-other c = above-other
