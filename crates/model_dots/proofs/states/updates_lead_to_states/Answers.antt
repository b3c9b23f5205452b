use Rattle.model_dots.proofs.StandLaws.{state-add, state-remove}
use Rattle.model_dots.proofs.states.updates_lead_to_states.Goals as goal

pub returns-clause-add : goal.returns-clause-add
returns-clause-add c = state-add

pub returns-clause-remove : goal.returns-clause-remove
returns-clause-remove c = state-remove
