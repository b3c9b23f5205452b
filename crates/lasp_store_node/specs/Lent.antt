-- A feed that was lent, and the read that it is lent to.
use Rattle.std.specs.Prelude.{◌≡◌, List, Option, Some, None}
use Rattle.model_journal.specs.Entry.{Entry, Frame}
use Rattle.model_journal.specs.Journal.{val}
use Rattle.model_core.specs.Core.{Read}
use Rattle.model_core.specs.Known.{HasLeast}
use Rattle.lasp_drive.specs.Node.{OnlyLearns}
use Rattle.lasp_core.specs.Core.{IsOpen}
use Rattle.lasp_core.specs.Listed.{GoesOn}
use Rattle.lasp_store.specs.Turn.{Knows}
use Rattle.lasp_store_node.specs.View.{node_of, place_of, IsFeed}

-- the feed is in the place where it was when it was lent, has only learned, and what it has seen goes on
pub record IsLent (start p : Knows) : Type 0 where
  pub feed : IsFeed p.lock p
  pub place : place_of p ≡ place_of start
  pub learns : OnlyLearns (node_of start None) (node_of p None)
  pub goes_on : GoesOn start.seen p.seen

-- the same where it is told what it knew when it was lent, as it is at each loan
abbrev pub IsLentFrom : Option Knows → Knows → Type 0
IsLentFrom None p = ⊥
IsLentFrom (Some start) p = IsLent start p

-- a read that may be polled, of a variable that is known to hold what its threshold asks for at least
pub record IsHeld (X : Frame) (seen : List Entry) (r : Read) : Type 0 where
  pub may : IsOpen X seen r
  pub least : HasLeast r.threshold (val X seen r.var)
