-- The feed of a store as a run's node has it.
use Rattle.std.specs.Prelude.{◌≡◌, ℕ, ◌≤◌, Bool, List, [], length, Option, Some, None}
use Rattle.std.specs.Option.{option_map}
use Rattle.std.specs.Arc.{arc_value}
use Rattle.model_states.specs.Counts.{AreCountsAtMost}
use Rattle.model_graph.specs.Message.{Message}
use Rattle.model_journal.specs.Entry.{Entry, Frame}
use Rattle.model_journal.specs.Journal.{vals, counts}
use Rattle.model_core.specs.Core.{Core}
use Rattle.model_core.specs.Peer.{peer_of}
use Rattle.model_runs.specs.Calls.{unbound}
use Rattle.lasp_histlock.specs.Names.{LockId}
use Rattle.lasp_drive.specs.Node.{NodeView, Posted}
use Rattle.lasp_drive.specs.declared.node.Tail.{Tail}
use Rattle.lasp_node.specs.View as cores
use Rattle.lasp_node.specs.View.{entries_sent}
use Rattle.lasp_node.specs.declared.node.LastSent.{LastSent}
use Rattle.lasp_store.specs.Turn.{Knows, IsSeated, frame_of, graph_seen}

-- ---- when it last sent

-- a core with these entries, of which nothing else is asked
abbrev pub core_at : Frame → List Entry → Core
core_at X entries = record { frame = X; entries = entries; parked = []; busy = []; opened = 0; owed = 0 }

-- what the feed's replica held then
abbrev pub posted_at : Knows → LastSent → Posted
posted_at p s = cores.posted_at (core_at (frame_of p) p.seen) s

-- how many entries its journal had then
abbrev pub since : Option LastSent → Option ℕ
since last = option_map (λ (s : LastSent). s.entries) last

-- the feed has seen as many
abbrev pub IsEarly : Option LastSent → Knows → Type 0
IsEarly last p = entries_sent last ≤ length p.seen

-- what is told beside a message has these rows behind the message that was sent then
abbrev pub IsBehind : Option LastSent → Option Message → Option Tail → Type 0
IsBehind last rows None = Unit {0}
IsBehind last rows (Some t) = (s : LastSent) × (last ≡ Some s) × (t.before ≡ s.number) × (rows ≡ Some (arc_value t.rows))

-- ---- the node

-- what the node knows: what its feed does, and when it last sent
pub record Seen : Type 0 where
  pub feed : Knows
  pub last : Option LastSent

abbrev pub seen : Knows → Option LastSent → Seen
seen p last = record { feed = p; last = last }

-- the node that the feed has seen, which sent last then. Its reads aren't told: others may open and close reads at its store
abbrev pub node_of : Knows → Option LastSent → NodeView
node_of p last = record {
  decls = graph_seen p;
  number = (frame_of p).replica;
  among = (frame_of p).nodes;
  peer = peer_of (frame_of p) p.seen;
  calls = unbound p.seen;
  shown = vals (frame_of p) p.seen;
  reads = None;
  sent = option_map (posted_at p) last;
}

abbrev pub node_seen : Seen → NodeView
node_seen n = node_of n.feed n.last

-- the feed's store and replica, whether it is in a turn, and the hands that were made there and came back
pub record Place : Type 0 where
  pub lock : LockId
  pub number : ℕ
  pub frame : Option Frame
  pub turn : Bool
  pub made : ℕ
  pub back : List ℕ

abbrev pub place_of : Knows → Place
place_of p = record { lock = p.lock; number = p.number; frame = p.frame; turn = p.turn; made = p.made; back = p.back }

-- the feed of the store, in no turn, which knows a legal list
pub record IsFeed (store : LockId) (p : Knows) : Type 0 where
  pub seated : IsSeated store p
  pub first : p.number ≡ 0

-- the feed has seen that so much was counted
abbrev pub AreCounted : List ℕ → Knows → Type 0
AreCounted known p = AreCountsAtMost known (counts (frame_of p) p.seen)
