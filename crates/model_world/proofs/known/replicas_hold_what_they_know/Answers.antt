use Rattle.model_world.proofs.KnownLaws.{replica-holds, message-carries, mark-keeps}
use Rattle.model_world.proofs.known.replicas_hold_what_they_know.Goals as goal

pub returns-clause-replica : goal.returns-clause-replica
returns-clause-replica c = replica-holds

pub returns-clause-message : goal.returns-clause-message
returns-clause-message c = message-carries

pub returns-clause-mark : goal.returns-clause-mark
returns-clause-mark c = mark-keeps
