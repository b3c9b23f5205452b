use Rattle.lasp_mail.proofs.mailbox.Mailbox.new.Given as goal

abbrev pub ghosts-cut : goal.ghosts-cut
ghosts-cut g a = record { table = a.seat.now.table_id }
