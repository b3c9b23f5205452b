use Rattle.lasp_core.proofs.JobLaws.{job-done, result-done, job-fits, job-present}
use Rattle.lasp_core.proofs.laws.evaluated_jobs_have_results.Goals as goal

pub returns-clause-job : goal.returns-clause-job
returns-clause-job c X entries y job done now same = job-done X entries y job now done same

pub returns-clause-result : goal.returns-clause-result
returns-clause-result c X entries y job done now same = result-done X entries y job now done same

pub returns-clause-fits : goal.returns-clause-fits
returns-clause-fits c = job-fits

pub returns-clause-present : goal.returns-clause-present
returns-clause-present c = job-present
