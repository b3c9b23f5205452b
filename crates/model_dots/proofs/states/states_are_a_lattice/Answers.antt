use Rattle.model_dots.proofs.DotLaws.{state-join}
use Rattle.model_dots.proofs.states.states_are_a_lattice.Goals as goal

pub returns-clause-state : goal.returns-clause-state
returns-clause-state c = state-join
