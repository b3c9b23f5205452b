-- A node that is fed on a thread of its own.
use Rattle.std.specs.Prelude.{◌≡◌, ℕ, List, [], Option, Some, None}
use Rattle.lasp_live.specs.Ends.{Box, Out, In, AreEnds, AreUnused}
use Rattle.lasp_live.specs.Fed.{Setting, HasFed, frame_in}
use Rattle.lasp_live.specs.Steady.{MayFeed}
use Rattle.lasp_live.specs.declared.diary.Diary.{Diary}
use Rattle.model_journal.specs.Entry.{Entry, Frame}
use Rattle.model_runs.specs.Calls.{unbound}

-- what contracts see of a node at its desk: its number, its feeder's frame and journal, the ends of its mailboxes, and its diary where it came to its end
pub record SeatView (P : Type 0) : Type 0 where
  pub me : ℕ
  pub place : P
  pub frame : Frame
  pub seen : List Entry
  pub outs : List Out
  pub ins : List In
  pub diary : Option Diary

module _ {P : Type 0} where
  -- a node that hasn't begun
  pub record IsReady (s : Setting) (boxes : List Box) (v : SeatView P) : Type 0 where
    pub me : v.me ≡ s.me
    pub frame : v.frame ≡ frame_in s
    pub fresh : unbound v.seen ≡ []
    pub none : v.diary ≡ None
    pub unused : AreUnused v.outs v.ins
    pub may : MayFeed s boxes v.outs v.ins

  -- what it tells, where it came to its end
  abbrev pub HasTold : Setting → SeatView P → Option Diary → Type 0
  HasTold s v None = Unit {0}
  HasTold s v (Some d) = HasFed s v.seen d v.outs v.ins

  -- the same node when it was fed: at the same place, with ends of the same mailboxes
  pub record IsServed (s : Setting) (boxes : List Box) (old new : SeatView P) : Type 0 where
    pub me : new.me ≡ old.me
    pub place : new.place ≡ old.place
    pub frame : new.frame ≡ old.frame
    pub ends : AreEnds (s.graph, s.script) s.script.nodes s.me boxes new.outs new.ins
    pub told : HasTold s new new.diary
