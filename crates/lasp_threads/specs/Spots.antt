-- Where the hands of workers are, and which of a store's hands are out.
use Rattle.std.specs.Prelude.{◌≡◌, ◌⊎◌, ℕ, ◌+◌, ◌<◌, ◌≤◌, true, List, [], ◌∷◌, ◌++◌, length, map, slice_get, Some, None}
use Rattle.lasp_drive.specs.Node.{NodeView, OnlyLearns}
use Rattle.lasp_drive.specs.Nodes.{AllLearn}
use Rattle.lasp_histlock.specs.History.{among}
use Rattle.lasp_histlock.specs.Names.{LockId}
use Rattle.lasp_store.specs.Settled.{GoesOnByBinds}
use Rattle.lasp_store.specs.Turn.{Knows}
use Rattle.lasp_store_node.specs.View.{Seen, seen, node_of, IsFeed}
use Rattle.lasp_workers.specs.declared.replicas.Replicas.{Replicas}
use Rattle.lasp_workers.specs.Replicas.{pairs_of}

-- ---- hands

-- a hand: its node, the lock of its store, and its number there
abbrev pub Spot : Type 0
Spot = ℕ × LockId × ℕ

abbrev pub spot_of : ℕ × (Knows × ℕ) → Spot
spot_of p = (p.0, p.1.0.lock, p.1.0.number)

-- the hands of a worker
abbrev pub spots_of : Replicas (Knows × ℕ) → List Spot
spots_of replicas = map spot_of (pairs_of replicas)

-- the hands of all workers
abbrev pub all_spots : List (List Spot) → List Spot
all_spots [] = []
all_spots (spots ∷ more) = spots ++ all_spots more

-- hand number k of node p is one of these
abbrev pub IsOut : ℕ → ℕ → List Spot → Type 0
IsOut p k [] = ⊥
IsOut p k (s ∷ spots) = ((s.0 ≡ p) × (s.2 ≡ k)) ⊎ IsOut p k spots

-- each is at the store of its node
abbrev pub AreAt : List LockId → List Spot → Type 0
AreAt stores spots = (j : ℕ) (s : Spot) → slice_get spots j ≡ Some s → slice_get stores s.0 ≡ Some s.1

-- each hand that the feed of node p made is back or one of these
abbrev pub HasOut : List Spot → ℕ → Knows → Type 0
HasOut spots p f = (k : ℕ) → 0 < k → k < f.made → (among k f.back ≡ true) ⊎ IsOut p k spots

abbrev pub HaveOut : List Spot → List Knows → Type 0
HaveOut spots feeds = (p : ℕ) (f : Knows) → slice_get feeds p ≡ Some f → HasOut spots p f

-- each feed gave out no more than so many numbers
abbrev pub HaveMade : ℕ → List Knows → Type 0
HaveMade most feeds = (p : ℕ) (f : Knows) → slice_get feeds p ≡ Some f → f.made ≤ most

-- the feeds before a place gave out one number more at most than so many, and those from there on no more
pub record AreMaking (most p : ℕ) (feeds : List Knows) : Type 0 where
  pub before : (q : ℕ) (f : Knows) → slice_get feeds q ≡ Some f → f.made ≤ most + 1
  pub behind : (q : ℕ) (f : Knows) → slice_get feeds q ≡ Some f → p ≤ q → f.made ≤ most

-- ---- feeds

-- the feeds of these stores, each in no turn
pub record AreFeeds (stores : List LockId) (feeds : List Knows) : Type 0 where
  pub size : length feeds ≡ length stores
  pub each : (p : ℕ) (lock : LockId) (f : Knows) → slice_get stores p ≡ Some lock → slice_get feeds p ≡ Some f → IsFeed lock f

-- what the feeds have seen, as nodes that haven't sent
abbrev pub feed_seen : Knows → NodeView
feed_seen f = node_of f None

abbrev pub nodes_seen : List Knows → List NodeView
nodes_seen feeds = map feed_seen feeds

-- the nodes of feeds, which haven't sent
abbrev pub unsent : List Knows → List Seen
unsent feeds = map (λ (f : Knows). seen f None) feeds

-- the feeds of nodes
abbrev pub feeds_of : List Seen → List Knows
feeds_of nodes = map (λ (n : Seen). n.feed) nodes

-- it is still the feed of its store and replica, and learned results at most, when a hand was made or came back
pub record IsKept (store : LockId) (old new : Knows) : Type 0 where
  pub feed : IsFeed store new
  pub frame : new.frame ≡ old.frame
  pub learns : OnlyLearns (feed_seen old) (feed_seen new)
  pub seen : GoesOnByBinds old.seen new.seen

-- the list that it has seen goes on what was seen there, by results alone
pub record HasGrown (old : List Knows) (p : ℕ) (f : Knows) : Type 0 where
  pub was : Knows
  pub at : slice_get old p ≡ Some was
  pub grew : GoesOnByBinds was.seen f.seen

-- each is
pub record AreKept (stores : List LockId) (old new : List Knows) : Type 0 where
  pub feeds : AreFeeds stores new
  pub frames : map (λ (f : Knows). f.frame) new ≡ map (λ (f : Knows). f.frame) old
  pub learn : AllLearn (nodes_seen old) (nodes_seen new)
  pub seen : (p : ℕ) (f : Knows) → slice_get new p ≡ Some f → HasGrown old p f
