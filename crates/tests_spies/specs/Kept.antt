-- Passes that may make every call of their tests.
use Rattle.std.specs.Prelude.{◌≡◌, false}
use Rattle.lasp_histlock.specs.Names.{LockId}
use Rattle.lasp_snap.specs.Views.{ShelfView}
use Rattle.lasp_store.specs.Shelves.{IsShelfOf}
use Rattle.lasp_store.specs.Turn.{Knows}

-- a feed of the store that is free, and a shelf that shows what it publishes
abbrev pub MayPublish : LockId → Knows → ShelfView → Type 0
MayPublish store p s = (p.lock ≡ store) × (p.turn ≡ false) × (p.number ≡ 0) × IsShelfOf p s
