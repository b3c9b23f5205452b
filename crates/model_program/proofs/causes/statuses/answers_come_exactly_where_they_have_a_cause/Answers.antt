use Rattle.std.proofs.Common.{refl}
use Rattle.std.specs.Prelude.{Err}
use Rattle.model_program.specs.Cause.{usage}
use Rattle.model_program.specs.declared.refusal.Refusal.TheVariants as refusal
use Rattle.model_program.proofs.BackLaws.{cause-told, told-cause}
use Rattle.model_program.proofs.StatusLaws.{usage-form}
use Rattle.model_program.proofs.causes.statuses.answers_come_exactly_where_they_have_a_cause.Goals as goal

pub returns-clause-exact : goal.returns-clause-exact
returns-clause-exact c = λ lib content words answer. (λ told. told-cause lib content words answer told, λ cause. cause-told lib content words answer cause)

pub returns-clause-usage : goal.returns-clause-usage
returns-clause-usage c = λ lib content words. (λ cause. usage-form lib content words (Err refusal.Usage) cause refl, λ is. usage is)
