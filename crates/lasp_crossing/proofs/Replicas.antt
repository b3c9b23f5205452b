-- Entries of a journal, histories and replicas may cross threads and be shared.
use denote.Param.Send.{IsSend, IsSync}
use Rattle.lasp_graph.proofs.decl.Decl.TheSendSync as decl
use Rattle.lasp_graph.proofs.graph.Graph.TheSendSync as graph
use Rattle.lasp_crossing.proofs.Values.{owned}
use Rattle.lasp_crossing.proofs.Sets.{Row-send, Row-sync, OrSet-send, OrSet-sync}
use Rattle.lasp_crossing.proofs.States.{Op-send, Op-sync}
use Rattle.lasp_crossing.proofs.Graphs.{States-send, States-sync, Inputs-send, Inputs-sync}
use Rattle.lasp_crossing.proofs.Messages.{Message-send, Message-sync}
use Rattle.lasp_replica.specs.contracts.history.History as History
use Rattle.lasp_replica.specs.contracts.entry.Entry as Entry
use Rattle.lasp_replica.specs.contracts.replica.Replica as Replica

pub Entry-send : IsSend (Entry.the_field).row
Entry-send = search (Op-send, Message-send, Message-sync, decl.the_field_send, owned) depth 40 fits 4000

pub Entry-sync : IsSync (Entry.the_field).row
Entry-sync = search (Op-sync, Message-send, Message-sync, decl.the_field_sync, owned) depth 40 fits 4000

pub History-send : IsSend History.the_row
History-send = search (Row-send, OrSet-send, owned) depth 40 fits 4000

pub History-sync : IsSync History.the_row
History-sync = search (Row-sync, OrSet-sync, owned) depth 40 fits 4000

pub Replica-send : IsSend (Replica.the_field).row
Replica-send = search (graph.the_send, graph.the_sync, States-send, History-send, Inputs-send, Entry-send, owned) depth 40 fits 4000

pub Replica-sync : IsSync (Replica.the_field).row
Replica-sync = search (graph.the_send, graph.the_sync, States-sync, History-sync, Inputs-sync, Entry-sync, owned) depth 40 fits 4000
