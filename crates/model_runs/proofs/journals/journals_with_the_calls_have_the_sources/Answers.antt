use Rattle.model_runs.proofs.CallLaws.{script-sources}
use Rattle.model_runs.proofs.journals.journals_with_the_calls_have_the_sources.Goals as goal

pub returns-clause-script : goal.returns-clause-script
returns-clause-script c = script-sources
