use Rattle.std.proofs.Common.{List, ℕ, subst}
use Rattle.model_journal.specs.Entry.{Entry, Frame}
use Rattle.model_core.specs.Core.{Read}
use Rattle.lasp_core.specs.Core as core
use Rattle.lasp_store.specs.Turn.{Knows, frame_of}
use Rattle.lasp_store.proofs.TurnLaws.{tried-at}
use Rattle.lasp_store.proofs.seated.SeatedWatched.try_poll.Goals as goal

pub returns-clause-open : goal.returns-clause-open
returns-clause-open g c =
    let new = c.try_poll_read.new.h in
    let hand = c.self.inside.hand in
    subst (λ (s : Knows × ℕ). (other : Read) → core.IsOpen (frame_of s.0) s.0.seen other → core.IsOpen (frame_of new) new.seen other) c.self.view_is
    (λ other may.
    tried-at (λ (X : Frame) (L : List Entry). core.IsOpen X L other) hand new c.try_poll_read.result c.try_poll_read.ensures.busy c.try_poll_read.ensures.ok c.try_poll_read.ensures.refused may
    (λ more. c.reads_stay_open.ensures (frame_of hand) hand.seen more other may))
