use Rattle.model_dots.proofs.AgreeLaws.{each-lacks}
use Rattle.model_dots.proofs.agreement.replicas_without_tombstones_stand_for_those_with_them.Goals as goal

pub returns-clause-removed : goal.returns-clause-removed
returns-clause-removed c = each-lacks
