use Rattle.model_readings.proofs.Graphs.{next-decl_read, graph-push}
use Rattle.model_readings.proofs.laws.read_declarations_are_lawful.Goals as goal

pub returns-clause-next : goal.returns-clause-next
returns-clause-next c = λ lib before d decl e. (next-decl_read lib before d decl e).next

pub returns-clause-fits : goal.returns-clause-fits
returns-clause-fits c = λ lib before d decl e. (next-decl_read lib before d decl e).fits

pub returns-clause-graph : goal.returns-clause-graph
returns-clause-graph c = λ before decl good room next. graph-push before decl good room next
