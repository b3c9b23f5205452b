use Rattle.model_dots.proofs.RiseLaws.{add-rises, remove-rises}
use Rattle.model_dots.proofs.states.updates_lead_upwards.Goals as goal

pub returns-clause-add : goal.returns-clause-add
returns-clause-add c = add-rises

pub returns-clause-remove : goal.returns-clause-remove
returns-clause-remove c = remove-rises
