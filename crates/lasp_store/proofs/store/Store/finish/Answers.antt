use Rattle.std.proofs.Common.{List}
use Rattle.model_journal.specs.Entry.{Entry, Frame}
use Rattle.lasp_replica.specs.Jobs.{IsResultOf}
use Rattle.lasp_store.specs.Turn.{frame_of}
use Rattle.lasp_store.proofs.TurnLaws.{begun-at}
use Rattle.lasp_store.proofs.store.Store.finish.Goals as goal

pub end_finish-requires-clause-result : goal.end_finish-requires-clause-result
end_finish-requires-clause-result g c =
    let h = c.args.h.now in
    begun-at (λ (X : Frame) (L : List Entry). IsResultOf X L c.args.job c.args.state) c.args.self.now h c.begin-core.new.h c.begin-core.result.value c.begin-core.ensures
    (λ more. c.jobs_stay.ensures.result (frame_of h) h.seen more c.args.job c.args.state c.requires.job.derived c.requires.result)
