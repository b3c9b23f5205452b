use Rattle.model_world.proofs.StopLaws.{stop-found, stop-is, end-found, end-is}
use Rattle.model_world.proofs.laws.runs_stop_at_their_first_stop.Goals as goal

pub returns-clause-stops : goal.returns-clause-stops
returns-clause-stops c = λ number run commands stop. (stop-found number run commands stop, stop-is number run commands stop)

pub returns-clause-ends : goal.returns-clause-ends
returns-clause-ends c = λ number run last commands. (end-found number run last commands, end-is number run last commands)
