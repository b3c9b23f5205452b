use Rattle.model_core.proofs.ValidLaws.{val-ordered}
use Rattle.model_core.proofs.legal.contents_are_within_the_limits.Goals as goal

pub returns-clause-ordered : goal.returns-clause-ordered
returns-clause-ordered c = val-ordered
