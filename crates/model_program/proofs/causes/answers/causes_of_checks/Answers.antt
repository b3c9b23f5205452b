use Rattle.std.proofs.Common.{refl, ◌∙◌}
use Rattle.std.specs.Prelude.{Ok}
use Rattle.model_program.specs.Check.{check_text}
use Rattle.model_program.specs.Plan.{Says, exactly}
use Rattle.model_program.specs.declared.form.Form.TheVariants.{Check}
use Rattle.model_program.proofs.CauseLaws.{told-answer}
use Rattle.model_program.proofs.PlanCauses.{told-form, opening-long, opening-refused, opening-read}
use Rattle.model_program.proofs.causes.answers.causes_of_checks.Goals as goal

pub returns-clause-graph_too_long : goal.returns-clause-graph_too_long
returns-clause-graph_too_long c = λ lib content words graph is told long.
    told-form lib content words Check is ∙ opening-long lib content words (λ g. Says (exactly (Ok (check_text g)))) graph told long

pub returns-clause-graph_refused : goal.returns-clause-graph_refused
returns-clause-graph_refused c = λ lib content words graph number why is file bad.
    told-form lib content words Check is ∙ opening-refused lib content words (λ g. Says (exactly (Ok (check_text g)))) graph number why file bad

pub returns-clause-checked : goal.returns-clause-checked
returns-clause-checked c = λ lib content words g is graph.
    told-form lib content words Check is
    ∙ opening-read lib content words (λ h. Says (exactly (Ok (check_text h)))) g graph
    ∙ told-answer content words (exactly (Ok (check_text g))) (exactly (Ok (check_text g))) refl
