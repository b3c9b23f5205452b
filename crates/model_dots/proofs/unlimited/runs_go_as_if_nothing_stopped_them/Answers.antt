use Rattle.model_dots.proofs.UnlimitedLaws.{run-place}
use Rattle.model_dots.proofs.unlimited.runs_go_as_if_nothing_stopped_them.Goals as goal

pub returns-clause-each : goal.returns-clause-each
returns-clause-each c = run-place
