use Rattle.model_runs.proofs.HeldLaws.{held-updated, below-updated, held-delivered, below-delivered, held-extended, held-message}
use Rattle.model_runs.proofs.held.sources_stay_within_the_format.Goals as goal

pub returns-clause-updated : goal.returns-clause-updated
returns-clause-updated c = held-updated

pub returns-clause-updated_counts : goal.returns-clause-updated_counts
returns-clause-updated_counts c = below-updated

pub returns-clause-delivered : goal.returns-clause-delivered
returns-clause-delivered c = held-delivered

pub returns-clause-delivered_counts : goal.returns-clause-delivered_counts
returns-clause-delivered_counts c = below-delivered

pub returns-clause-extended : goal.returns-clause-extended
returns-clause-extended c = held-extended

pub returns-clause-message : goal.returns-clause-message
returns-clause-message c = held-message
