-- All of these laws, as one set for `search`.
use Rattle.lasp_value.proofs.name.Name.TheSendSync as name
use Rattle.lasp_value.proofs.text.Text.TheSendSync as text
use Rattle.lasp_graph.proofs.decl.Decl.TheSendSync as decl
use Rattle.lasp_graph.proofs.graph.Graph.TheSendSync as graph
use Rattle.lasp_wire.proofs.counts.Counts.TheSendSync as counts
use Rattle.lasp_crossing.proofs.Values as values
use Rattle.lasp_crossing.proofs.Sets.{Row-send, Row-sync, OrSet-send, OrSet-sync, GSet-send, GSet-sync}
use Rattle.lasp_crossing.proofs.States.{State-send, State-sync, Op-send, Op-sync, Threshold-send, Threshold-sync}
use Rattle.lasp_crossing.proofs.Graphs.{States-send, States-sync, Inputs-send, Inputs-sync}
use Rattle.lasp_crossing.proofs.Messages.{Message-send, Message-sync}
use Rattle.lasp_crossing.proofs.Replicas.{Entry-send, Entry-sync, History-send, History-sync, Replica-send, Replica-sync}
use Rattle.lasp_crossing.proofs.Cores.{ReadNo-send, ReadNo-sync, Released-send, Released-sync, Core-send, Core-sync, Job-send, Job-sync}
use Rattle.lasp_crossing.proofs.Scripts.{Command-send, Command-sync, Script-send, Script-sync}
use Rattle.lasp_crossing.proofs.Stores.{Hand-send, Store-send, Store-sync, Seated-send}

pub ruleset crosses = (
  Hand-send,
  Seated-send,
  Store-send,
  Store-sync,
  Core-send,
  Core-sync,
  Job-send,
  Job-sync,
  ReadNo-send,
  ReadNo-sync,
  Released-send,
  Released-sync,
  Script-send,
  Script-sync,
  Command-send,
  Command-sync,
  Replica-send,
  Replica-sync,
  History-send,
  History-sync,
  Entry-send,
  Entry-sync,
  Message-send,
  Message-sync,
  States-send,
  States-sync,
  Inputs-send,
  Inputs-sync,
  Op-send,
  Op-sync,
  Threshold-send,
  Threshold-sync,
  State-send,
  State-sync,
  Row-send,
  Row-sync,
  OrSet-send,
  OrSet-sync,
  GSet-send,
  GSet-sync,
  graph.the_send,
  graph.the_sync,
  decl.the_field_send,
  decl.the_field_sync,
  counts.the_send,
  counts.the_sync,
  name.the_send,
  name.the_sync,
  text.the_send,
  text.the_sync,
  values.crosses,
)
