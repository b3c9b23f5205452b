use Rattle.std.proofs.Common.{sym, ap, ◌∙◌, length}
use Rattle.lasp_mail.proofs.Lines.{puts}
use Rattle.lasp_mail.proofs.mailbox.Mailbox.put.Goals as goal

pub push_as-requires-clause-rule : goal.push_as-requires-clause-rule
push_as-requires-clause-rule g c =
    let line = c.o.invariant.line in
    let parcel = c.new-parcel.ensures in
    let number = ap (λ p. p.item.number) parcel ∙ c.requires.number ∙ sym (ap (λ v. length v.put) c.o.view_is) ∙ sym (ap (λ l. l.count) line) in
    let ledger = ap (λ b. b.ledger) c.self.view_is ∙ sym (ap (λ b. b.ledger) c.requires.of) ∙ sym (ap (λ v. v.of.ledger) c.o.view_is) in
    let place = ap (λ p. p.table) parcel ∙ c.issue-mark.ensures.mark.0 ∙ ledger ∙ sym (ap (λ l. l.place.table) line) in
    λ n. puts _ _ n _ _ _ (ap (λ l. l.sends) line) (ap (λ l. l.takes) line) number place
