use Rattle.model_deltas.proofs.AppliedLaws.{cause-gap, cause-large, cause-done}
use Rattle.model_deltas.proofs.applied.causes_of_refusals.Goals as goal

pub returns-clause-gap : goal.returns-clause-gap
returns-clause-gap c = cause-gap

pub returns-clause-large : goal.returns-clause-large
returns-clause-large c = cause-large

pub returns-clause-done : goal.returns-clause-done
returns-clause-done c = cause-done
