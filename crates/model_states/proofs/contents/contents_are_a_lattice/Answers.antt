use Rattle.model_states.proofs.ContentLaws.{ordered-join}
use Rattle.model_states.proofs.contents.contents_are_a_lattice.Goals as goal

pub returns-clause-ordered : goal.returns-clause-ordered
returns-clause-ordered c = ordered-join
