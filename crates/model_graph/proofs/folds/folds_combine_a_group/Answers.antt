use Rattle.model_graph.proofs.GroupLaws.{fold-group}
use Rattle.model_graph.proofs.folds.folds_combine_a_group.Goals as goal

pub returns-clause-group : goal.returns-clause-group
returns-clause-group c = fold-group
