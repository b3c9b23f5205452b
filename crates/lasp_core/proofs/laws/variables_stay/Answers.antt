use Rattle.model_core.proofs.BaseLaws.{graph-longer, kind-later}
use Rattle.lasp_core.proofs.LaterLaws.{derived-later, job-derives}
use Rattle.lasp_core.proofs.laws.variables_stay.Goals as goal

pub returns-clause-declared : goal.returns-clause-declared
returns-clause-declared c = graph-longer

pub returns-clause-kind : goal.returns-clause-kind
returns-clause-kind c = kind-later

pub returns-clause-derived : goal.returns-clause-derived
returns-clause-derived c = derived-later

pub returns-clause-job : goal.returns-clause-job
returns-clause-job c = job-derives
