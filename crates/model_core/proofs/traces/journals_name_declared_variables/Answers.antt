use Rattle.model_core.proofs.TraceLaws.{names_declared}
use Rattle.model_core.proofs.traces.journals_name_declared_variables.Goals as goal

pub returns : goal.returns
returns c = names_declared
