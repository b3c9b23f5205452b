-- Messages may cross threads and be shared.
use denote.Param.Send.{IsSend, IsSync}
use Rattle.lasp_crossing.proofs.Values.{owned}
use Rattle.lasp_crossing.proofs.States.{State-send, State-sync}
use Rattle.lasp_wire.specs.contracts.message.Message as Message

pub Message-send : IsSend Message.the_row
Message-send = search (State-send, owned) depth 40 fits 4000

pub Message-sync : IsSync Message.the_row
Message-sync = search (State-sync, owned) depth 40 fits 4000
