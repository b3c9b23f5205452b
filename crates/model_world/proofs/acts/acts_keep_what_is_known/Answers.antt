use Rattle.model_world.proofs.KnowsLaws.{known-begin, known-covered}
use Rattle.model_world.proofs.ActLaws.{acts-update, acts-others}
use Rattle.model_world.proofs.acts.acts_keep_what_is_known.Goals as goal

pub returns-clause-start : goal.returns-clause-start
returns-clause-start c = known-begin

pub returns-clause-update : goal.returns-clause-update
returns-clause-update c = acts-update

pub returns-clause-others : goal.returns-clause-others
returns-clause-others c = acts-others

pub returns-clause-covered : goal.returns-clause-covered
returns-clause-covered c = known-covered
