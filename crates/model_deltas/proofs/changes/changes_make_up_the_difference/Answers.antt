use Rattle.model_deltas.proofs.ChangeLaws.{content_counts-changed, content_top-changed, changed-ordered}
use Rattle.model_deltas.proofs.changes.changes_make_up_the_difference.Goals as goal

pub returns-clause-counts : goal.returns-clause-counts
returns-clause-counts c = content_counts-changed

pub returns-clause-top : goal.returns-clause-top
returns-clause-top c = content_top-changed

pub returns-clause-ordered : goal.returns-clause-ordered
returns-clause-ordered c = changed-ordered
