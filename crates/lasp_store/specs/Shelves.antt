-- What a feed publishes: versions of its replica's states.
use Rattle.std.specs.Prelude.{◌≡◌, ℕ, ◌≤◌, List, [], ◌∷◌, ◌++◌, length, take, Some}
use Rattle.model_graph.specs.Graph.{kind_at}
use Rattle.model_graph.specs.Lawful.{IsDerived}
use Rattle.model_journal.specs.Entry.{Entry, Frame}
use Rattle.model_journal.specs.Journal.{graph, vals}
use Rattle.lasp_graph.specs.Evaluated.{number_by}
use Rattle.lasp_graph.specs.States.{contents_of, held_at}
use Rattle.lasp_core.specs.Core.{AreOfKind}
use Rattle.lasp_snap.specs.Version.{Version, IsSmall, last_of}
use Rattle.lasp_snap.specs.Views.{ShelfView}
use Rattle.lasp_store.specs.Turn.{Knows, frame_of}

-- the states after these entries, each of its variable's kind, a fold with its number
pub record IsVersionAt (X : Frame) (entries : List Entry) (v : Version) : Type 0 where
  pub n : v.n ≡ length entries
  pub states : contents_of v.states ≡ vals X entries
  pub kinds : AreOfKind X.nodes (graph X entries) v.states
  pub numbers : (x : ℕ) → IsDerived (graph X entries) x → (held_at v.states x).number ≡ number_by (kind_at (graph X entries) x) (held_at v.states x).content
  pub many : length v.states ≡ length (graph X entries)
  pub small : IsSmall v

-- one version more was published, the one after these entries
abbrev pub Adds : Frame → List Entry → List Version → List Version → Type 0
Adds X entries old new = (v : Version) × (new ≡ old ++ v ∷ []) × IsVersionAt X entries v

-- what was published last is of the replica, after some of the entries that this pass has seen
pub record IsShelfOf (p : Knows) (s : ShelfView) : Type 0 where
  pub last : Version
  pub last_is : last_of s.published ≡ Some last
  pub seen : last.n ≤ length p.seen
  pub version : IsVersionAt (frame_of p) (take last.n p.seen) last
