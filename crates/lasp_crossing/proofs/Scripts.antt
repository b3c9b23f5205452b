-- Scripts may cross threads and be shared.
use denote.Param.Send.{IsSend, IsSync}
use Rattle.lasp_graph.proofs.decl.Decl.TheSendSync as decl
use Rattle.lasp_crossing.proofs.Values.{Value-send, Value-sync, Values-send, Values-sync, owned}
use Rattle.lasp_script.specs.contracts.command.Command as Command
use Rattle.lasp_script.specs.contracts.script.Script as Script

pub Command-send : IsSend (Command.the_field).row
Command-send = search (Value-send, Values-send, decl.the_field_send, owned) depth 40 fits 4000

pub Command-sync : IsSync (Command.the_field).row
Command-sync = search (Value-sync, Values-sync, decl.the_field_sync, owned) depth 40 fits 4000

pub Script-send : IsSend Script.the_row
Script-send = search (Command-send, owned) depth 40 fits 4000

pub Script-sync : IsSync Script.the_row
Script-sync = search (Command-sync, owned) depth 40 fits 4000
