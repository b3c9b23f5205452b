use Rattle.model_deltas.proofs.RunLaws.{gossip-ends, gossip-stops}
use Rattle.model_deltas.proofs.runs.deltas_change_nothing_of_a_run.Goals as goal

pub returns-clause-ends : goal.returns-clause-ends
returns-clause-ends c = gossip-ends

pub returns-clause-stops : goal.returns-clause-stops
returns-clause-stops c = gossip-stops
