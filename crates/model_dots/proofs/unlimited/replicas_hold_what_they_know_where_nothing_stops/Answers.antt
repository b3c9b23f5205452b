use Rattle.model_dots.proofs.PlaceLaws.{replica-holds, replica-contents, replica-own, message-carries, mark-keeps}
use Rattle.model_dots.proofs.unlimited.replicas_hold_what_they_know_where_nothing_stops.Goals as goal

pub returns-clause-replica : goal.returns-clause-replica
returns-clause-replica c = replica-holds

pub returns-clause-contents : goal.returns-clause-contents
returns-clause-contents c = replica-contents

pub returns-clause-own : goal.returns-clause-own
returns-clause-own c = replica-own

pub returns-clause-message : goal.returns-clause-message
returns-clause-message c = message-carries

pub returns-clause-mark : goal.returns-clause-mark
returns-clause-mark c = mark-keeps
