-- States, operations and thresholds may cross threads and be shared.
use denote.Param.Send.{IsSend, IsSync}
use Rattle.lasp_state.proofs.counter.GCount.TheSendSync as count
use Rattle.lasp_state.proofs.register.MaxReg.TheSendSync as register
use Rattle.lasp_crossing.proofs.Values.{Value-send, Value-sync, Values-send, Values-sync, owned}
use Rattle.lasp_crossing.proofs.Sets.{OrSet-send, OrSet-sync, GSet-send, GSet-sync}
use Rattle.lasp_state.specs.contracts.state.State as State
use Rattle.lasp_state.specs.contracts.op.Op as Op
use Rattle.lasp_state.specs.contracts.threshold.Threshold as Threshold

pub State-send : IsSend (State.the_field).row
State-send = search (OrSet-send, GSet-send, count.the_send, register.the_field_send, owned) depth 40 fits 4000

pub State-sync : IsSync (State.the_field).row
State-sync = search (OrSet-sync, GSet-sync, count.the_sync, register.the_field_sync, owned) depth 40 fits 4000

pub Op-send : IsSend (Op.the_field).row
Op-send = search (Value-send, State-send, State-sync, owned) depth 40 fits 4000

pub Op-sync : IsSync (Op.the_field).row
Op-sync = search (Value-sync, State-send, State-sync, owned) depth 40 fits 4000

pub Threshold-send : IsSend (Threshold.the_field).row
Threshold-send = search (Values-send, State-send, State-sync, owned) depth 40 fits 4000

pub Threshold-sync : IsSync (Threshold.the_field).row
Threshold-sync = search (Values-sync, State-send, State-sync, owned) depth 40 fits 4000
