-- The stores of a run and their feeds, before the run and when they are given back.
use Rattle.std.specs.Prelude.{◌≡◌, ℕ, ◌<◌, true, List, ◌++◌, length, map, slice_get, Some, Ok}
use Rattle.model_graph.specs.Graph.{Decl}
use Rattle.model_journal.specs.Entry.{Entry, Frame}
use Rattle.model_journal.specs.Journal.{vals}
use Rattle.model_core.specs.Peer.{peer_of}
use Rattle.model_runs.specs.Calls.{calls, unbound}
use Rattle.model_world.specs.Command.{Script}
use Rattle.model_world.specs.World.{Peer, Run, start, ended}
use Rattle.lasp_histlock.specs.History.{among}
use Rattle.lasp_histlock.specs.Names.{LockId}
use Rattle.lasp_histlock.specs.Passes.{first_pass}
use Rattle.lasp_store.specs.Settled.{evaluation}
use Rattle.lasp_store.specs.Turn.{Knows, frame_of}
use Rattle.lasp_store_node.specs.View.{IsFeed}

-- ---- before a run

-- the frame of node p of so many
abbrev pub frame_at : List Decl → ℕ → ℕ → Frame
frame_at g many p = record { opening = g; replica = p; nodes = many }

-- each is the feed that came with its store, to which nothing has happened
pub record AreFirst (g : List Decl) (stores : List LockId) (feeds : List Knows) : Type 0 where
  pub size : length feeds ≡ length stores
  pub first : (p : ℕ) (lock : LockId) (f : Knows) → slice_get stores p ≡ Some lock → slice_get feeds p ≡ Some f → f ≡ first_pass lock (frame_at g (length stores) p)

-- ---- when the feeds are given back

-- it is the feed of this store and of this replica, in no turn, knows a legal journal, and has back every hand that it made
pub record IsBack (lock : LockId) (X : Frame) (f : Knows) : Type 0 where
  pub feed : IsFeed lock f
  pub frame : f.frame ≡ Some X
  pub hands : (k : ℕ) → 0 < k → k < f.made → among k f.back ≡ true

-- each is, of its store and its node
pub record AreBack (g : List Decl) (stores : List LockId) (feeds : List Knows) : Type 0 where
  pub size : length feeds ≡ length stores
  pub each : (p : ℕ) (lock : LockId) (f : Knows) → slice_get stores p ≡ Some lock → slice_get feeds p ≡ Some f → IsBack lock (frame_at g (length stores) p) f

-- what the script makes at node p stands in its journal, once and in order, and nothing else but results
abbrev pub HasCalls : List Decl → Script → ℕ → List Entry → Type 0
HasCalls g script p seen = unbound seen ≡ calls 1 (start g script.nodes) p script.commands

-- the first of that does
abbrev pub HasFirstCalls : List Decl → Script → ℕ → List Entry → Type 0
HasFirstCalls g script p seen = (rest : List Entry) × (unbound seen ++ rest ≡ calls 1 (start g script.nodes) p script.commands)

-- the sources and counts that each feed has seen
abbrev pub peers_seen : List Knows → List Peer
peers_seen feeds = map (λ (f : Knows). peer_of (frame_of f) f.seen) feeds

-- a run that came to its end: each journal has what the script makes there, the sources and counts are those of the run's last world, and every variable is as its graph gives it on the sources
pub record HaveRun (g : List Decl) (script : Script) (feeds : List Knows) : Type 0 where
  pub calls : (p : ℕ) (f : Knows) → slice_get feeds p ≡ Some f → HasCalls g script p f.seen
  pub peers : (run : Run) → ended g script ≡ Ok run → peers_seen feeds ≡ run.peers
  pub evaluated : (p : ℕ) (f : Knows) → slice_get feeds p ≡ Some f → vals (frame_of f) f.seen ≡ evaluation (frame_of f) f.seen

-- a run that stopped: each journal has the first of what the script makes there
abbrev pub HaveStopped : List Decl → Script → List Knows → Type 0
HaveStopped g script feeds = (p : ℕ) (f : Knows) → slice_get feeds p ≡ Some f → HasFirstCalls g script p f.seen
