use Rattle.lasp_core.proofs.LaterLaws.{job-later, result-later}
use Rattle.lasp_core.proofs.laws.jobs_stay.Goals as goal

pub returns-clause-job : goal.returns-clause-job
returns-clause-job c = job-later

pub returns-clause-result : goal.returns-clause-result
returns-clause-result c = result-later
