use Rattle.lasp_core.proofs.LaterLaws.{open-later}
use Rattle.lasp_core.proofs.laws.reads_stay_open.Goals as goal

pub returns : goal.returns
returns c = open-later
