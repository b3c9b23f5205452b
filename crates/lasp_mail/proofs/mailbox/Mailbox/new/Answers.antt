use Rattle.std.proofs.Common.{[], ◌∷◌}
use Rattle.lasp_mail.proofs.Witnesses.{opens}
use Rattle.lasp_mail.proofs.Lines.{begins}
use Rattle.lasp_mail.proofs.mailbox.Mailbox.new.Goals as goal

pub of_words-requires : goal.of_words-requires
of_words-requires g c = opens _ _ _ (λ x. g.T.Framed.frame x.body) (g.T.Framed.frame c.args.like.now) (0 ∷ [])

pub with_rule-requires : goal.with_rule-requires
with_rule-requires g c = begins _ _
