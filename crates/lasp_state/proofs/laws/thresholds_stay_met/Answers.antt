use Rattle.lasp_state.proofs.JoinLaws.{meets-grown}
use Rattle.lasp_state.proofs.laws.thresholds_stay_met.Goals as goal

pub returns-clause-meets : goal.returns-clause-meets
returns-clause-meets c = meets-grown
