use Rattle.std.proofs.Common.{ap}
use Rattle.lasp_mail.proofs.Lines.{takes}
use Rattle.lasp_mail.proofs.mailbox.Mailbox.take.Goals as goal

pub pop_as-requires-clause-rule : goal.pop_as-requires-clause-rule
pop_as-requires-clause-rule g c =
    let line = c.i.invariant.line in
    (takes _ _ _ _ (ap (λ l. l.takes) line) (ap (λ l. l.sends) line), λ _ _ _ _. tt)
