use Rattle.model_graph.proofs.IncrementLaws.{changed-change}
use Rattle.model_graph.proofs.equations.equations_follow_changed_rows.Goals as goal

pub returns-clause-change : goal.returns-clause-change
returns-clause-change c = changed-change
