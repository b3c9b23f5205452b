use Rattle.model_live.proofs.HearLaws.{made-kept, totals-kept, counted-kept}
use Rattle.model_live.proofs.hearings.news_leave_a_nodes_own_counts.Goals as goal

pub returns-clause-updates : goal.returns-clause-updates
returns-clause-updates c = made-kept

pub returns-clause-totals : goal.returns-clause-totals
returns-clause-totals c = totals-kept

pub returns-clause-counted : goal.returns-clause-counted
returns-clause-counted c = counted-kept
