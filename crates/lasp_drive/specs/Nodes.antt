-- What a point and a declaration do to all nodes of a run.
use Rattle.std.specs.Prelude.{◌≡◌, ℕ, ◌<◌, ◌≤◌, ◌++◌, ◌∷◌, [], List, length, map, slice_get, Some, Result, Ok, Err}
use Rattle.model_functions.specs.Library.{Library}
use Rattle.model_graph.specs.Graph.{Decl}
use Rattle.model_readings.specs.Lawful.{FitsAll}
use Rattle.model_world.specs.World.{Peer, Run, peer_at, point_from, extended}
use Rattle.model_journal.specs.Entry as model
use Rattle.model_journal.specs.Entry.{Entry}
use Rattle.model_core.specs.Core.{Read}
use Rattle.model_runs.specs.Calls.{fed}
use Rattle.model_runs.specs.Held.{IsHeld}
use Rattle.lasp_drive.specs.Node.{NodeView, IsStill, AreNodes, AreSettled}
use Rattle.lasp_drive.specs.Waiting.{AreWaiting, opened_counts}
use Rattle.lasp_drive.specs.Marks.{AllGrow}
use Rattle.lasp_drive.specs.Acts.{Halts}
use Rattle.lasp_drive.specs.declared.halt.Halt.{Halt}
use Rattle.lasp_drive.specs.declared.driver.OpenRead.{OpenRead}

abbrev pub peers_of : List NodeView → List Peer
peers_of nodes = map (λ (n : NodeView). n.peer) nodes

abbrev pub calls_of : List NodeView → List (List Entry)
calls_of nodes = map (λ (n : NodeView). n.calls) nodes

-- what a node does at a point or a declaration opens no read, the reads that the run opened wait as before unless they came to be met, it shows at least what it showed, and it sends nothing
pub record KeepReads (old new : List NodeView) : Type 0 where
  pub counts : opened_counts new ≡ opened_counts old
  pub waiting : (c : ℕ) (opened : List (OpenRead Read)) → AreWaiting c old opened → AreWaiting c new opened
  pub grow : AllGrow old new

-- the nodes of a run over a graph may be settled
pub record MaySettle (lib : Library) (g : List Decl) (nodes : List NodeView) : Type 0 where
  pub few : length nodes ≤ 8
  pub nodes_are : AreNodes g (length nodes) nodes
  pub held : (p : ℕ) → p < length nodes → IsHeld (length nodes) g (peer_at (peers_of nodes) p)
  pub fits : FitsAll lib g

-- the nodes were asked, and each learned at most: each is the node that stood there, with the sources, counts and calls that it had; they are settled where they were, and the reads that waited wait still unless they came to be met
pub record AllLearn (old new : List NodeView) : Type 0 where
  pub size : length new ≡ length old
  pub still : (p : ℕ) (n : NodeView) → slice_get new p ≡ Some n → (m : NodeView) × (slice_get old p ≡ Some m) × IsStill m n
  pub peers : peers_of new ≡ peers_of old
  pub calls : calls_of new ≡ calls_of old
  pub settled : AreSettled old → AreSettled new
  pub reads : KeepReads old new

-- every node is settled, and took in nothing
pub record AllSettled (g : List Decl) (old new : List NodeView) : Type 0 where
  pub size : length new ≡ length old
  pub nodes_are : AreNodes g (length old) new
  pub settled : AreSettled new
  pub peers : peers_of new ≡ peers_of old
  pub calls : calls_of new ≡ calls_of old
  pub reads : KeepReads old new

-- command number c settled every node, or the run stopped where the world's point stops, or memory was wanting, and no node was called
abbrev pub SettlesAll : {A : Type 0} → ℕ → List Decl → List NodeView → Result A Halt → List NodeView → Type 0
SettlesAll c g old (Ok done) new = AllSettled g old new × ((run : Run) → run.graph ≡ g → point_from c 0 (peers_of old) run ≡ Ok run)
SettlesAll c g old (Err why) new = ((run : Run) → run.graph ≡ g → Halts (point_from c 0 (peers_of old) run) why) × (calls_of new ≡ calls_of old)

-- every node went on with one declaration more
pub record AllExtend (g : List Decl) (d : Decl) (old new : List NodeView) : Type 0 where
  pub size : length new ≡ length old
  pub nodes_are : AreNodes g (length old) new
  pub peers : peers_of new ≡ map (extended (length old) d) (peers_of old)
  pub calls : calls_of new ≡ map (λ h. h ++ fed (model.Extend d) ∷ []) (calls_of old)
  pub reads : KeepReads old new
