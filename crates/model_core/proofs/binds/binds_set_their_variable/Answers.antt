use Rattle.model_core.proofs.BaseLaws.{bind-earlier}
use Rattle.model_core.proofs.binds.binds_set_their_variable.Goals as goal

pub returns-clause-earlier : goal.returns-clause-earlier
returns-clause-earlier c = bind-earlier
