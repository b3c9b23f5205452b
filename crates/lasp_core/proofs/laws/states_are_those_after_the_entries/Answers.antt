use Rattle.lasp_core.proofs.JobLaws.{state-told}
use Rattle.lasp_core.proofs.laws.states_are_those_after_the_entries.Goals as goal

pub returns : goal.returns
returns c = state-told
