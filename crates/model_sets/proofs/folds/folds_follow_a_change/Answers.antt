use Rattle.model_sets.proofs.FoldLaws.{fold-change, fold-corrected, fold-rows}
use Rattle.model_sets.proofs.folds.folds_follow_a_change.Goals as goal

pub returns-clause-change : goal.returns-clause-change
returns-clause-change c = λ member op neutral inverse g lift. fold-change g lift

pub returns-clause-corrections : goal.returns-clause-corrections
returns-clause-corrections c = λ member op neutral inverse g lift. fold-corrected g lift

pub returns-clause-rows : goal.returns-clause-rows
returns-clause-rows c = λ member op neutral inverse g lift. fold-rows g lift
