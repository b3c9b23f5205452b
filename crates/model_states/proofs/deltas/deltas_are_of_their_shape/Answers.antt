use Rattle.model_states.proofs.DeltaLaws.{remove-shape}
use Rattle.model_states.proofs.deltas.deltas_are_of_their_shape.Goals as goal

pub returns-clause-remove : goal.returns-clause-remove
returns-clause-remove c = remove-shape
