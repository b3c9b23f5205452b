-- Sets and counters may cross threads and be shared.
use denote.Param.Send.{IsSend, IsSync}
use Rattle.indexmap.proofs.map.IndexMap.TheSendSync as map
use Rattle.lasp_crossing.proofs.Values.{Token-send, Token-sync, Value-send, Value-sync, owned}
use Rattle.lasp_logset.specs.contracts.key.Key as Key
use Rattle.lasp_logset.specs.contracts.name.Name as Name
use Rattle.lasp_logset.specs.contracts.entry.Entry as Row
use Rattle.lasp_logset.specs.contracts.past.Past as Past
use Rattle.lasp_logset.specs.contracts.set.LogSet as LogSet
use Rattle.lasp_logset.specs.contracts.grown.Grown as Grown
use Rattle.lasp_logset.specs.contracts.orset.OrSet as OrSet
use Rattle.lasp_state.specs.contracts.gset.GSet as GSet

Key-send : IsSend Key.the_row
Key-send = search (Token-send, Value-send, owned) depth 40 fits 4000

Key-sync : IsSync Key.the_row
Key-sync = search (Token-sync, Value-sync, owned) depth 40 fits 4000

Name-send : IsSend Name.the_row
Name-send = search (Key-send, Key-sync, owned) depth 40 fits 4000

Name-sync : IsSync Name.the_row
Name-sync = search (Key-send, Key-sync, owned) depth 40 fits 4000

pub Row-send : IsSend Row.the_row
Row-send = search (Name-send, owned) depth 40 fits 4000

pub Row-sync : IsSync Row.the_row
Row-sync = search (Name-sync, owned) depth 40 fits 4000

Past-send : IsSend Past.the_row
Past-send = search (Row-send, Row-sync, owned) depth 40 fits 4000

Past-sync : IsSync Past.the_row
Past-sync = search (Row-send, Row-sync, owned) depth 40 fits 4000

LogSet-send : IsSend LogSet.the_row
LogSet-send = search (Row-send, Row-sync, Name-send, map.the_send, owned) depth 40 fits 4000

LogSet-sync : IsSync LogSet.the_row
LogSet-sync = search (Row-send, Row-sync, Name-sync, map.the_sync, owned) depth 40 fits 4000

Grown-send : IsSend Grown.the_row
Grown-send = search (LogSet-send, LogSet-sync, Past-send, owned) depth 40 fits 4000

Grown-sync : IsSync Grown.the_row
Grown-sync = search (LogSet-send, LogSet-sync, Past-sync, owned) depth 40 fits 4000

pub OrSet-send : IsSend OrSet.the_row
OrSet-send = search (LogSet-send, LogSet-sync, Grown-send, owned) depth 40 fits 4000

pub OrSet-sync : IsSync OrSet.the_row
OrSet-sync = search (LogSet-send, LogSet-sync, Grown-sync, owned) depth 40 fits 4000

pub GSet-send : IsSend GSet.the_row
GSet-send = search (OrSet-send, owned) depth 40 fits 4000

pub GSet-sync : IsSync GSet.the_row
GSet-sync = search (OrSet-sync, owned) depth 40 fits 4000
