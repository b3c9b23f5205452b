-- What the variables of a graph hold may cross threads and be shared, as may the graph itself by what is made for it.
use denote.Param.Send.{IsSend, IsSync}
use Rattle.lasp_crossing.proofs.Values.{owned}
use Rattle.lasp_crossing.proofs.States.{State-send, State-sync}
use Rattle.lasp_graph.specs.contracts.states.States as States
use Rattle.lasp_graph.specs.contracts.inputs.Inputs as Inputs

pub States-send : IsSend States.the_row
States-send = search (State-send, State-sync, owned) depth 40 fits 4000

pub States-sync : IsSync States.the_row
States-sync = search (State-send, State-sync, owned) depth 40 fits 4000

pub Inputs-send : IsSend (Inputs.the_field).row
Inputs-send = search (State-send, State-sync, owned) depth 40 fits 4000

pub Inputs-sync : IsSync (Inputs.the_field).row
Inputs-sync = search (State-send, State-sync, owned) depth 40 fits 4000
