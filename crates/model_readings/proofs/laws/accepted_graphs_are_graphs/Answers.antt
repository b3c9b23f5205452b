use Rattle.model_readings.proofs.Forms.{graph-accepted}
use Rattle.model_readings.proofs.laws.accepted_graphs_are_graphs.Goals as goal

pub returns : goal.returns
returns c = graph-accepted
