use Rattle.model_world.proofs.LimitLaws.{marked-count, opened-count, few-nodes, few-marks, few-reads}
use Rattle.model_world.proofs.limits.runs_keep_the_limits_of_their_scripts.Goals as goal

pub returns-clause-marked : goal.returns-clause-marked
returns-clause-marked c = marked-count

pub returns-clause-opened : goal.returns-clause-opened
returns-clause-opened c = opened-count

pub returns-clause-nodes : goal.returns-clause-nodes
returns-clause-nodes c = few-nodes

pub returns-clause-marks : goal.returns-clause-marks
returns-clause-marks c = few-marks

pub returns-clause-reads : goal.returns-clause-reads
returns-clause-reads c = few-reads
