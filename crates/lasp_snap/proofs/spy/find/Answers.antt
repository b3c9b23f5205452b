use Rattle.lasp_snap.proofs.Rules.{looks}
use Rattle.lasp_snap.proofs.spy.find.Goals as goal

pub enter_as-requires : goal.enter_as-requires
enter_as-requires c = looks _ _
