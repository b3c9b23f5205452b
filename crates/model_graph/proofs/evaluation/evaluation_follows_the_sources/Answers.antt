use Rattle.model_graph.proofs.EvalLaws.{eval-ordered}
use Rattle.model_graph.proofs.evaluation.evaluation_follows_the_sources.Goals as goal

pub returns-clause-ordered : goal.returns-clause-ordered
returns-clause-ordered c = eval-ordered
