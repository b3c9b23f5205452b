use Rattle.std.proofs.Common.{[], ◌∷◌}
use Rattle.lasp_mail.proofs.mailbox.Mailbox.put.Given as goal

abbrev pub ghosts-issue : goal.ghosts-issue
ghosts-issue g a = record { items = a.item.now ∷ [] }
