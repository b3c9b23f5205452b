-- The cores of stores that are closed when a run is over.
use Rattle.std.specs.Prelude.{◌≡◌, ℕ, ◌<◌, true, List, length, slice_get, Some}
use Rattle.model_core.specs.Core.{Core}
use Rattle.model_journal.specs.Legal.{IsLegal}
use Rattle.lasp_histlock.specs.History.{among}
use Rattle.lasp_histlock.specs.Names.{LockId}
use Rattle.lasp_store.specs.Settled.{GoesOnByBinds}
use Rattle.lasp_store.specs.Turn.{Knows}
use Rattle.lasp_store_node.specs.View.{IsFeed}

-- the feed is that of the store, in no turn, and has back every hand that it made
pub record IsClosable (lock : LockId) (f : Knows) : Type 0 where
  pub feed : IsFeed lock f
  pub hands : (k : ℕ) → 0 < k → k < f.made → among k f.back ≡ true

-- each is, of its store
pub record AreClosable (stores : List LockId) (feeds : List Knows) : Type 0 where
  pub size : length feeds ≡ length stores
  pub each : (p : ℕ) (lock : LockId) (f : Knows) → slice_get stores p ≡ Some lock → slice_get feeds p ≡ Some f → IsClosable lock f

-- the core of the feed's replica, whose journal is legal: what the feed had seen, and behind that results alone
pub record IsClosed (f : Knows) (core : Core) : Type 0 where
  pub frame : Some core.frame ≡ f.frame
  pub entries : GoesOnByBinds f.seen core.entries
  pub legal : IsLegal core.frame core.entries

-- each is, of its feed
pub record AreClosed (feeds : List Knows) (cores : List Core) : Type 0 where
  pub size : length cores ≡ length feeds
  pub each : (p : ℕ) (f : Knows) (core : Core) → slice_get feeds p ≡ Some f → slice_get cores p ≡ Some core → IsClosed f core
