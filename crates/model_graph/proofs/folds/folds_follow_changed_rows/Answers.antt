use Rattle.model_graph.proofs.GroupLaws.{fold-changed}
use Rattle.model_graph.proofs.folds.folds_follow_changed_rows.Goals as goal

pub returns : goal.returns
returns c = record { after = fold-changed }
