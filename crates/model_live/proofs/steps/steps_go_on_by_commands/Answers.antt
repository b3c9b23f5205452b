use Rattle.model_live.proofs.StepLaws.{steps-next, steps-all}
use Rattle.model_live.proofs.steps.steps_go_on_by_commands.Goals as goal

pub returns-clause-next : goal.returns-clause-next
returns-clause-next c = steps-next

pub returns-clause-all : goal.returns-clause-all
returns-clause-all c = steps-all
