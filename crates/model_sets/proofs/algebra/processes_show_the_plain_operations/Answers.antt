use Rattle.model_sets.proofs.AlgebraLaws.{visible-map, visible-union}
use Rattle.model_sets.proofs.algebra.processes_show_the_plain_operations.Goals as goal

pub returns-clause-map : goal.returns-clause-map
returns-clause-map c = visible-map

pub returns-clause-union : goal.returns-clause-union
returns-clause-union c = visible-union
