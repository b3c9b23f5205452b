-- Values and tokens may cross threads and be shared.
use denote.Param.Send.{IsSend, IsSync, sendable}
use Rattle.std.proofs.Crossing as std
use Rattle.lasp_value.proofs.token.Token.TheLaws.TheKnot as token
use Rattle.lasp_value.proofs.value.Value.TheLaws.TheKnot as value
use Rattle.lasp_value.proofs.text.Text.TheSendSync as text
use Rattle.lasp_value.specs.contracts.token.Token as Token
use Rattle.lasp_value.specs.contracts.value.Value as Value
use Rattle.lasp_value.specs.contracts.values.Values as Values

-- what all types that own are made of
pub ruleset owned = (std.crosses, sendable)

pub Token-send : IsSend (Token.the_field).row
Token-send = search (token.crosses, owned) depth 40 fits 4000

pub Token-sync : IsSync (Token.the_field).row
Token-sync = search (token.crosses, owned) depth 40 fits 4000

pub Value-send : IsSend (Value.the_field).row
Value-send = search (value.crosses, text.the_send, owned) depth 40 fits 4000

pub Value-sync : IsSync (Value.the_field).row
Value-sync = search (value.crosses, text.the_sync, owned) depth 40 fits 4000

pub Values-send : IsSend Values.the_row
Values-send = search (Value-send, owned) depth 40 fits 4000

pub Values-sync : IsSync Values.the_row
Values-sync = search (Value-sync, owned) depth 40 fits 4000

pub ruleset crosses = (Token-send, Token-sync, Value-send, Value-sync, Values-send, Values-sync, owned)
