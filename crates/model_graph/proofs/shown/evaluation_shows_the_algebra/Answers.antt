use Rattle.model_graph.proofs.ShownLaws.{eval-algebra, fold-algebra}
use Rattle.model_graph.proofs.shown.evaluation_shows_the_algebra.Goals as goal

pub returns-clause-shown : goal.returns-clause-shown
returns-clause-shown c = eval-algebra

pub returns-clause-folded : goal.returns-clause-folded
returns-clause-folded c = fold-algebra
