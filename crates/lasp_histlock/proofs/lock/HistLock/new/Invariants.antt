use Rattle.lasp_histlock.proofs.lock.HistLock.new.Given as goal

abbrev pub ghosts-land : goal.ghosts-land
ghosts-land g a = record { table = a.board.now.table_id }
