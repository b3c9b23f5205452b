use Rattle.model_states.proofs.DeltaLaws.{add-row, remove-row, remove-dead, insert-value}
use Rattle.model_states.proofs.deltas.deltas_have_these_keys.Goals as goal

pub returns-clause-add : goal.returns-clause-add
returns-clause-add c = add-row

pub returns-clause-remove : goal.returns-clause-remove
returns-clause-remove c = remove-row

pub returns-clause-dead : goal.returns-clause-dead
returns-clause-dead c = remove-dead

pub returns-clause-insert : goal.returns-clause-insert
returns-clause-insert c = insert-value
