use Rattle.model_core.proofs.CoreLaws.{core-start, core-update, core-deliver, core-bind, core-extend}
use Rattle.model_core.proofs.cores.entries_keep_the_core.Goals as goal

pub returns-clause-start : goal.returns-clause-start
returns-clause-start c = core-start

pub returns-clause-update : goal.returns-clause-update
returns-clause-update c = core-update

pub returns-clause-deliver : goal.returns-clause-deliver
returns-clause-deliver c = core-deliver

pub returns-clause-bind : goal.returns-clause-bind
returns-clause-bind c = core-bind

pub returns-clause-extend : goal.returns-clause-extend
returns-clause-extend c = core-extend
