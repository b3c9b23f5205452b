use Rattle.model_program.proofs.TopLaws.{trace-cause, trace-caused, load-told, load-caused}
use Rattle.model_program.proofs.LiveLaws.{live-cause, live-caused}
use Rattle.model_program.proofs.causes.threads.threaded_answers_come_exactly_where_they_have_a_cause.Goals as goal

pub returns-clause-trace : goal.returns-clause-trace
returns-clause-trace c = λ lib content words answer. (λ told. trace-cause lib content words answer told, λ cause. trace-caused lib content words answer cause)

pub returns-clause-load : goal.returns-clause-load
returns-clause-load c = λ lib seed count content words answer. (λ told. load-told lib seed count content words answer told, λ cause. load-caused lib seed count content words answer cause)

pub returns-clause-live : goal.returns-clause-live
returns-clause-live c = λ lib content words failed answer. (live-cause lib content words failed answer, live-caused lib content words failed answer)
