use Rattle.model_world.proofs.VariableLaws.{known-ordered}
use Rattle.model_world.proofs.KnownLaws.{first-place}
use Rattle.model_world.proofs.known.known_is_the_join_of_the_first_updates.Goals as goal

pub returns-clause-ordered : goal.returns-clause-ordered
returns-clause-ordered c = known-ordered

pub returns-clause-first : goal.returns-clause-first
returns-clause-first c = first-place
