use Rattle.std.proofs.Common.{◌∙◌}
use Rattle.std.specs.Prelude.{Ok, Err}
use Rattle.model_world.specs.Report.{report_of}
use Rattle.model_world.specs.declared.stop.Stop.TheVariants as stop
use Rattle.model_program.specs.Plan.{Says, exactly}
use Rattle.model_program.specs.Program.{running_script, run_answer}
use Rattle.model_program.specs.declared.form.Form.TheVariants.{Plain}
use Rattle.model_program.specs.declared.refusal.Refusal.TheVariants as refusal
use Rattle.model_program.specs.Cause.{usage}
use Rattle.model_program.proofs.BackLaws.{cause-told}
use Rattle.model_program.proofs.PlanCauses.{told-form, opening-long, opening-refused, scripting-long, scripting-refused, ended_answer, run-ends, to-script, to-answer}
use Rattle.model_program.proofs.causes.answers.causes_of_answers.Goals as goal

pub returns-clause-usage : goal.returns-clause-usage
returns-clause-usage c = λ lib content words is. cause-told lib content words (Err refusal.Usage) (usage is)

pub returns-clause-graph_too_long : goal.returns-clause-graph_too_long
returns-clause-graph_too_long c = λ lib content words graph is told long.
    told-form lib content words Plain is ∙ opening-long lib content words (λ g. running_script lib report_of g) graph told long

pub returns-clause-graph_refused : goal.returns-clause-graph_refused
returns-clause-graph_refused c = λ lib content words graph number why is file bad.
    told-form lib content words Plain is ∙ opening-refused lib content words (λ g. running_script lib report_of g) graph number why file bad

pub returns-clause-script_too_long : goal.returns-clause-script_too_long
returns-clause-script_too_long c = λ lib content words script g is graph told long.
    told-form lib content words Plain is ∙ to-script lib content words g (run_answer report_of) graph ∙ scripting-long lib content words g (λ s. Says (exactly (run_answer report_of g s))) script told long

pub returns-clause-script_refused : goal.returns-clause-script_refused
returns-clause-script_refused c = λ lib content words script g number why is graph file bad.
    told-form lib content words Plain is ∙ to-script lib content words g (run_answer report_of) graph ∙ scripting-refused lib content words g (λ s. Says (exactly (run_answer report_of g s))) script number why file bad

pub returns-clause-run_stopped : goal.returns-clause-run_stopped
returns-clause-run_stopped c = λ lib content words g s halt is graph script ends.
    told-form lib content words Plain is ∙ to-answer lib content words g (run_answer report_of) s (ended_answer report_of g s (Err halt)) graph script (run-ends report_of g s (Err halt) ends)

pub returns-clause-too_large : goal.returns-clause-too_large
returns-clause-too_large c = λ lib content words g s command at x is graph script ends.
    told-form lib content words Plain is ∙ to-answer lib content words g (run_answer report_of) s (ended_answer report_of g s (Err (stop.TooLarge command at x))) graph script (run-ends report_of g s (Err (stop.TooLarge command at x)) ends)

pub returns-clause-network_full : goal.returns-clause-network_full
returns-clause-network_full c = λ lib content words g s command is graph script ends.
    told-form lib content words Plain is ∙ to-answer lib content words g (run_answer report_of) s (ended_answer report_of g s (Err (stop.NetworkFull command))) graph script (run-ends report_of g s (Err (stop.NetworkFull command)) ends)

pub returns-clause-not_reached : goal.returns-clause-not_reached
returns-clause-not_reached c = λ lib content words g s command is graph script ends.
    told-form lib content words Plain is ∙ to-answer lib content words g (run_answer report_of) s (ended_answer report_of g s (Err (stop.NotReached command))) graph script (run-ends report_of g s (Err (stop.NotReached command)) ends)

pub returns-clause-reported : goal.returns-clause-reported
returns-clause-reported c = λ lib content words g s run is graph script ends.
    told-form lib content words Plain is ∙ to-answer lib content words g (run_answer report_of) s (ended_answer report_of g s (Ok run)) graph script (run-ends report_of g s (Ok run) ends)
