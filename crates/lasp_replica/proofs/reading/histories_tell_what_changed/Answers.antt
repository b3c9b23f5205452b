use Rattle.lasp_replica.proofs.ReadLaws.{kept-changed, kept-change-first, kept-change-second, kept-all, kept-width}
use Rattle.lasp_replica.proofs.reading.histories_tell_what_changed.Goals as goal

pub returns-clause-changed : goal.returns-clause-changed
returns-clause-changed c = kept-changed

pub returns-clause-first : goal.returns-clause-first
returns-clause-first c = kept-change-first

pub returns-clause-second : goal.returns-clause-second
returns-clause-second c = kept-change-second

pub returns-clause-all : goal.returns-clause-all
returns-clause-all c = kept-all

pub returns-clause-small : goal.returns-clause-small
returns-clause-small c = kept-width
