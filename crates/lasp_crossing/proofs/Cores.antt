-- Cores, their jobs and their waiting reads may cross threads and be shared.
use denote.Param.Send.{IsSend, IsSync}
use Rattle.lasp_crossing.proofs.Values.{owned}
use Rattle.lasp_crossing.proofs.Sets.{OrSet-send, OrSet-sync}
use Rattle.lasp_crossing.proofs.States.{State-send, State-sync, Threshold-send, Threshold-sync}
use Rattle.lasp_crossing.proofs.Graphs.{Inputs-send, Inputs-sync}
use Rattle.lasp_crossing.proofs.Replicas.{Replica-send, Replica-sync}
use Rattle.lasp_graph.proofs.graph.Graph.TheSendSync as graph
use Rattle.lasp_replica.specs.contracts.job.Job as Job
use Rattle.lasp_core.specs.contracts.read.ReadNo as ReadNo
use Rattle.lasp_core.specs.contracts.read.Released as Released
use Rattle.lasp_core.specs.contracts.replica_core.Core as Core

pub ReadNo-send : IsSend (ReadNo.the_field).row
ReadNo-send = search (Threshold-send, Threshold-sync, owned) depth 40 fits 4000

pub ReadNo-sync : IsSync (ReadNo.the_field).row
ReadNo-sync = search (Threshold-send, Threshold-sync, owned) depth 40 fits 4000

pub Released-send : IsSend Released.the_row
Released-send = search (ReadNo-send, owned) depth 40 fits 4000

pub Released-sync : IsSync Released.the_row
Released-sync = search (ReadNo-sync, owned) depth 40 fits 4000

pub Core-send : IsSend Core.the_row
Core-send = search (Replica-send, ReadNo-send, owned) depth 40 fits 4000

pub Core-sync : IsSync Core.the_row
Core-sync = search (Replica-sync, ReadNo-sync, owned) depth 40 fits 4000

pub Job-send : IsSend (Job.the_field).row
Job-send = search (Inputs-send, graph.the_send, graph.the_sync, State-send, State-sync, OrSet-send, owned) depth 40 fits 4000

pub Job-sync : IsSync (Job.the_field).row
Job-sync = search (Inputs-sync, graph.the_send, graph.the_sync, State-send, State-sync, OrSet-sync, owned) depth 40 fits 4000
