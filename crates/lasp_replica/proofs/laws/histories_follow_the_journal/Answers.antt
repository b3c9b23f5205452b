use Rattle.lasp_replica.proofs.HistoryLaws.{history-declared, history-unmoved, history-joined, history-plain}
use Rattle.lasp_replica.proofs.laws.histories_follow_the_journal.Goals as goal

pub returns-clause-declared : goal.returns-clause-declared
returns-clause-declared c = history-declared

pub returns-clause-unmoved : goal.returns-clause-unmoved
returns-clause-unmoved c = history-unmoved

pub returns-clause-joined : goal.returns-clause-joined
returns-clause-joined c = history-joined

pub returns-clause-plain : goal.returns-clause-plain
returns-clause-plain c = history-plain
