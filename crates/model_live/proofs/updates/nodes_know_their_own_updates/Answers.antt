use Rattle.model_live.proofs.UpdateLaws.{knows-update}
use Rattle.model_live.proofs.updates.nodes_know_their_own_updates.Goals as goal

pub returns : goal.returns
returns c = knows-update
