use Rattle.model_states.proofs.CountLaws.{count_at-larger}
use Rattle.model_deltas.proofs.JoinedLaws.{message-ordered, joined-source, length-joined, applied-lawful}
use Rattle.model_deltas.proofs.applied.applied_messages_are_messages.Goals as goal

pub returns-clause-counts : goal.returns-clause-counts
returns-clause-counts c = λ m n q. count_at-larger m.counts n.counts q

pub returns-clause-length : goal.returns-clause-length
returns-clause-length c = λ m n. length-joined m.sources n.sources

pub returns-clause-sources : goal.returns-clause-sources
returns-clause-sources c = joined-source

pub returns-clause-ordered : goal.returns-clause-ordered
returns-clause-ordered c = message-ordered

pub returns-clause-lawful : goal.returns-clause-lawful
returns-clause-lawful c = applied-lawful
