-- A core as a run's node has it.
use Rattle.std.specs.Prelude.{ℕ, Option, Some, None, take}
use Rattle.std.specs.Option.{option_map}
use Rattle.model_journal.specs.Journal.{graph, vals}
use Rattle.model_core.specs.Core.{Core}
use Rattle.model_core.specs.Peer.{peer_of}
use Rattle.model_runs.specs.Calls.{unbound}
use Rattle.lasp_drive.specs.Node.{NodeView, Posted}
use Rattle.lasp_drive.specs.Reads.{Reads}
use Rattle.lasp_node.specs.declared.node.LastSent.{LastSent}

-- its reads, all of which are told: the core is its node's alone
abbrev pub reads_of : Core → Reads
reads_of c = record { waiting = c.parked; opened = c.opened }

-- what it held when it last sent
abbrev pub posted_at : Core → LastSent → Posted
posted_at c s = record { number = s.number; contents = (peer_of c.frame (take s.entries c.entries)).contents }

-- how many entries it had then
abbrev pub entries_sent : Option LastSent → ℕ
entries_sent None = 0
entries_sent (Some s) = s.entries

abbrev pub node_of : Core → Option LastSent → NodeView
node_of c sent = record {
  decls = graph c.frame c.entries;
  number = c.frame.replica;
  among = c.frame.nodes;
  peer = peer_of c.frame c.entries;
  calls = unbound c.entries;
  shown = vals c.frame c.entries;
  reads = Some (reads_of c);
  sent = option_map (posted_at c) sent;
}
