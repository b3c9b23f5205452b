-- What contracts see of a node, what its calls mean for its replica, and which nodes are those of one run.
use Rattle.std.specs.Prelude.{◌≡◌, ℕ, ◌<◌, ◌≤◌, ◌++◌, ◌∷◌, [], List, slice_get, Option, Some, None, Result, Ok, Err, OnOk, OnErr, IfSome, IsTrue, length, map, replicate, is_some}
use Rattle.std.specs.Option.{option_map}
use Rattle.std.specs.Arc.{arc_value}
use Rattle.std.specs.declared.sync.Arc.{Arc}
use Rattle.model_states.specs.Content.{Content, size_of, row_limit}
use Rattle.model_states.specs.Counts.{count_at}
use Rattle.model_states.specs.Threshold.{Threshold, suits, meets}
use Rattle.model_graph.specs.Graph.{Decl, is_source, kind_at}
use Rattle.model_graph.specs.Evaluation.{content_at, first_large}
use Rattle.model_graph.specs.Lawful.{shape_of}
use Rattle.model_graph.specs.Order.{ContentsAtMost}
use Rattle.model_world.specs.Line.{shown_content}
use Rattle.model_world.specs.World.{Peer, fresh_peer, extended, shown_at, message_at}
use Rattle.model_journal.specs.Entry as model
use Rattle.model_journal.specs.Entry.{Entry}
use Rattle.model_core.specs.Core.{Read}
use Rattle.model_core.specs.Known.{BringsNothing}
use Rattle.model_runs.specs.Calls.{fed}
use Rattle.model_runs.specs.Held.{IsHeld, IsUpdate}
use Rattle.model_runs.specs.Part.{IsTail}
use Rattle.lasp_state.specs.State as state
use Rattle.lasp_state.specs.State.{op_of, IsOpOf, shown_state}
use Rattle.lasp_state.specs.declared.op.Op as rust
use Rattle.lasp_state.specs.declared.state.State.{State}
use Rattle.lasp_drive.specs.Since.{HasSince}
use Rattle.lasp_drive.specs.Reads.{Reads, no_reads, as_they_are, releases, Grows}
use Rattle.lasp_drive.specs.declared.node.Tail.{Tail}
use Rattle.lasp_drive.specs.declared.node.NodeStop.{NodeStop}
use Rattle.lasp_drive.specs.declared.node.NodeStop.TheVariants as node

-- the number of a message, and what the node held that sent it
pub record Posted : Type 0 where
  pub number : ℕ
  pub contents : List Content

-- a node: its graph, its number, how many nodes there are, its sources and counts, its calls (the entries of its journal that are no results), what its variables hold, where it is its caller's alone, its reads, and, where it keeps that, what it last sent
pub record NodeView : Type 0 where
  pub decls : List Decl
  pub number : ℕ
  pub among : ℕ
  pub peer : Peer
  pub calls : List Entry
  pub shown : List Content
  pub reads : Option Reads
  pub sent : Option Posted

-- ---- what a node is

-- node p of a run of so many nodes over a graph
pub record IsNode (g : List Decl) (many p : ℕ) (n : NodeView) : Type 0 where
  pub graph : n.decls ≡ g
  pub replica : n.number ≡ p
  pub nodes : n.among ≡ many

-- a node is the node that it was, over the same graph
abbrev pub IsStill : NodeView → NodeView → Type 0
IsStill old new = IsNode old.decls old.among old.number new

-- each is the node with its number
abbrev pub AreNodes : List Decl → ℕ → List NodeView → Type 0
AreNodes g many nodes = (p : ℕ) (n : NodeView) → slice_get nodes p ≡ Some n → IsNode g many p n

-- no read was opened at a node, as far as its reads are told
abbrev pub HasNoReads : NodeView → Type 0
HasNoReads n = IfSome n.reads (λ s. s ≡ no_reads)

abbrev pub HaveNoReads : List NodeView → Type 0
HaveNoReads nodes = (p : ℕ) (n : NodeView) → slice_get nodes p ≡ Some n → HasNoReads n

abbrev pub HaveSentNothing : List NodeView → Type 0
HaveSentNothing nodes = (p : ℕ) (n : NodeView) → slice_get nodes p ≡ Some n → n.sent ≡ None

-- nothing has happened to the node
pub record IsFresh (g : List Decl) (many p : ℕ) (n : NodeView) : Type 0 where
  pub node : IsNode g many p n
  pub peer : n.peer ≡ fresh_peer g many
  pub calls : n.calls ≡ []
  pub reads : HasNoReads n
  pub sent : n.sent ≡ None

-- the first so many nodes of a run, to which nothing has happened
pub record AreFresh (g : List Decl) (many p : ℕ) (nodes : List NodeView) : Type 0 where
  pub size : length nodes ≡ p
  pub nodes_are : AreNodes g many nodes
  pub peers : map (λ (n : NodeView). n.peer) nodes ≡ replicate p (fresh_peer g many)
  pub calls : map (λ (n : NodeView). n.calls) nodes ≡ replicate p []
  pub reads : HaveNoReads nodes
  pub sent : HaveSentNothing nodes

-- what always holds of a node: it shows of a source what its replica holds, of no variable more than the graph gives on the sources, and of the reads that are told none waits whose variable has come to its threshold
pub record ShowsNoMore (n : NodeView) : Type 0 where
  pub sources : (x : ℕ) → x < length n.decls → IsTrue (is_source (kind_at n.decls x)) → content_at n.shown x ≡ content_at n.peer.contents x
  pub bounded : ContentsAtMost n.shown (shown_at n.decls n.peer)
  pub unmet : IfSome n.reads (λ s. s ≡ releases n.shown s)

-- its sources and counts are within the ranges of the message format
abbrev pub HoldsLittle : NodeView → Type 0
HoldsLittle n = IsHeld n.among n.decls n.peer

-- it shows what its graph gives on its sources
abbrev pub IsSettled : NodeView → Type 0
IsSettled n = n.shown ≡ shown_at n.decls n.peer

abbrev pub AreSettled : List NodeView → Type 0
AreSettled nodes = (p : ℕ) (n : NodeView) → slice_get nodes p ≡ Some n → IsSettled n

-- ---- what it may be asked for

-- an update that it may do
pub record MayUpdate (n : NodeView) (x : ℕ) (op : rust.Op) : Type 0 where
  pub held : HoldsLittle n
  pub member : n.number < n.among
  pub var : x < length n.decls
  pub may : IsUpdate n.among n.decls x (op_of op)
  pub suits_it : IsOpOf op n.number (shape_of n.among (kind_at n.decls x))
  pub room : count_at n.peer.counts n.number < 100000

-- an update by which what the replica holds of the source stays as it is
abbrev pub IsIdleUpdate : NodeView → ℕ → rust.Op → Type 0
IsIdleUpdate n x op = BringsNothing (content_at n.peer.contents x) n.peer.counts n.number (op_of op)

-- a read of a variable that its threshold suits
pub record MayRead (n : NodeView) (x : ℕ) (threshold : Threshold) : Type 0 where
  pub var : x < length n.decls
  pub suits_it : IsTrue (suits threshold (shape_of n.among (kind_at n.decls x)))

-- ---- what its calls do

-- a node was updated: it is as it should be and within the limit; or the variable is too large; or memory was wanting
abbrev pub Updates : {A : Type 0} → Peer → ℕ → Result A NodeStop → Peer → Type 0
Updates expected x (Ok done) new = (new ≡ expected) × (size_of (content_at expected.contents x) ≤ row_limit)
Updates expected x (Err (node.TooLarge y)) new = (y ≡ x) × (row_limit < size_of (content_at expected.contents x))
Updates expected x (Err node.Memory) new = Unit {0}

-- a node took a message: it is as it should be, and no variable is too large; or this one is the first that is; or memory was wanting
abbrev pub Delivers : {A : Type 0} → Peer → Result A NodeStop → Peer → Type 0
Delivers expected (Ok done) new = (new ≡ expected) × (first_large 0 expected.contents ≡ None)
Delivers expected (Err (node.TooLarge x)) new = first_large 0 expected.contents ≡ Some x
Delivers expected (Err node.Memory) new = Unit {0}

-- a node was settled, the first variable that is too large being this one
abbrev pub Settles : {A : Type 0} → Option ℕ → Result A NodeStop → Type 0
Settles large (Ok done) = large ≡ None
Settles large (Err (node.TooLarge x)) = large ≡ Some x
Settles large (Err node.Memory) = Unit {0}

-- each variable holds at least what it held, the reads that so came to be met wait no more, and nothing was sent
pub record Grew (old new : NodeView) : Type 0 where
  pub more : Grows old.shown new.shown
  pub released : new.reads ≡ option_map (releases new.shown) old.reads
  pub sent : new.sent ≡ old.sent

-- a node that was asked something is the node that it was, with the sources, counts and calls that it had. It may have learned results that others handed in: what it shows grew by them, and not at all where it showed what its graph gives on its sources
pub record Learns (old new : NodeView) : Type 0 where
  pub still : IsStill old new
  pub peer : new.peer ≡ old.peer
  pub calls : new.calls ≡ old.calls
  pub more : Grows old.shown new.shown
  pub settled : IsSettled old → new.shown ≡ old.shown

-- the same, nothing was sent, and of its reads those that came to be met wait no more, and the call made this of them
pub record LearnsAnd (change : List Content → Reads → Reads) (old new : NodeView) : Type 0 where
  pub learns : Learns old new
  pub reads : new.reads ≡ option_map (λ s. change new.shown (releases new.shown s)) old.reads
  pub sent : new.sent ≡ old.sent

-- the same of a call that leaves the reads
abbrev pub OnlyLearns : NodeView → NodeView → Type 0
OnlyLearns old new = LearnsAnd as_they_are old new

-- the same of a call that sends what the node holds, as message i
pub record Sends (i : ℕ) (old new : NodeView) : Type 0 where
  pub learns : Learns old new
  pub reads : new.reads ≡ option_map (releases new.shown) old.reads
  pub sent : IfSome new.sent (λ s. s ≡ record { number = i; contents = old.peer.contents })

-- the rows are what came since the node last sent; joined behind what it held then, they are what it holds
pub record IsTailOf (n : NodeView) (t : Tail) : Type 0 where
  pub posted : Posted
  pub sent : n.sent ≡ Some posted
  pub number : t.before ≡ posted.number
  pub rows : IsTail n.decls posted.contents n.peer.contents (message_at n.decls n.peer) (arc_value t.rows)
  pub exact : HasSince n.decls posted.contents n.peer.contents (arc_value t.rows)

-- a call that was done is the last of the node's calls, and what it shows grew; by one that was refused the node learned at most
pub record TakesIn {A E : Type 0} (a : model.Act) (old : NodeView) (result : Result A E) (new : NodeView) : Type 0 where
  pub still : IsStill old new
  pub calls : OnOk result (new.calls ≡ old.calls ++ fed a ∷ [])
  pub grew : OnOk result (Grew old new)
  pub refused : OnErr result (OnlyLearns old new)

-- the node went on with one declaration more, of which nothing has happened
pub record Extends (d : Decl) (old new : NodeView) : Type 0 where
  pub node : IsNode (old.decls ++ d ∷ []) old.among old.number new
  pub peer : new.peer ≡ extended old.among d old.peer
  pub calls : new.calls ≡ old.calls ++ fed (model.Extend d) ∷ []
  pub grew : Grew old new

-- only what is shown of derived variables changed, and with it which reads wait
pub record OnlyGrew (old new : NodeView) : Type 0 where
  pub still : IsStill old new
  pub peer : new.peer ≡ old.peer
  pub calls : new.calls ≡ old.calls
  pub grew : Grew old new

-- a state is what the node's replica holds of a source
pub record Holds (n : NodeView) (x : ℕ) (s : State) : Type 0 where
  pub content : state.content_of s ≡ content_at n.peer.contents x
  pub shape : state.shape_of s ≡ shape_of n.among (kind_at n.decls x)

-- a state is what the node shows of a variable
pub record Shows (n : NodeView) (x : ℕ) (s : State) : Type 0 where
  pub content : state.content_of s ≡ content_at n.shown x
  pub shape : state.shape_of s ≡ shape_of n.among (kind_at n.decls x)
  pub text : shown_state s ≡ shown_content (kind_at n.decls x) (content_at n.shown x)

-- the state of a read's variable exactly where it is at the threshold
pub record Polls {A : Type 0} (n : NodeView) (r : Read) (found : Option (Arc State A)) : Type 0 where
  pub met : is_some found ≡ meets r.threshold (content_at n.shown r.var)
  pub state : IfSome found (λ s. Shows n r.var (arc_value s))
