-- Passes that may make every call of their tests.
use Rattle.std.specs.Prelude.{◌≡◌, ℕ, ◌≤◌, List, length, Option, IfSome}
use Rattle.model_graph.specs.Graph.{Decl}
use Rattle.lasp_histlock.specs.Names.{LockId}
use Rattle.lasp_core.specs.Core.{IsOpen}
use Rattle.lasp_core.specs.Reads.{read_of}
use Rattle.lasp_core.specs.declared.read.ReadNo.{ReadNo}
use Rattle.lasp_store.specs.Turn.{Knows, IsSeated, frame_of, graph_seen}

-- a feed of the store that is free, and has seen this graph
pub record IsFeed (store : LockId) (g : List Decl) (p : Knows) : Type 0 where
  pub seated : IsSeated store p
  pub first : p.number ≡ 0
  pub graph : graph_seen p ≡ g

-- a hand of the store that is free, and has seen so many variables
pub record IsHand (store : LockId) (many : ℕ) (p : Knows) : Type 0 where
  pub seated : IsSeated store p
  pub many_are : many ≤ length (graph_seen p)

-- a read that the hand may poll, if there is one
abbrev pub MayPoll : Knows → Option ReadNo → Type 0
MayPoll p read = IfSome read (λ r. IsOpen (frame_of p) p.seen (read_of r))

-- what a call leaves of a hand: it may make the next one, and poll what it might poll before
pub record HasAsked (store : LockId) (many : ℕ) (old new : Knows) : Type 0 where
  pub hand : IsHand store many new
  pub polls : (read : Option ReadNo) → MayPoll old read → MayPoll new read
