use Rattle.lasp_core.proofs.JobLaws.{rows-unread}
use Rattle.lasp_core.proofs.laws.jobs_have_the_unread_rows.Goals as goal

pub returns : goal.returns
returns c = rows-unread
