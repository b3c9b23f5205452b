use Rattle.lasp_histlock.specs.History.{added}
use Rattle.lasp_histlock.proofs.lock.HistLock.give.Given as goal

abbrev pub ghosts-finish : goal.ghosts-finish
ghosts-finish g a = record { entries = added a.seat.now.me.0.seen (g.T.Kept.list a.value) }
