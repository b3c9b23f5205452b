use Rattle.lasp_mail.proofs.Lines.{forks}
use Rattle.lasp_mail.proofs.line.cut.Goals as goal

pub another-requires-clause-rule : goal.another-requires-clause-rule
another-requires-clause-rule g c = forks _ _ g.J.Room.table _ _ c.requires.1
