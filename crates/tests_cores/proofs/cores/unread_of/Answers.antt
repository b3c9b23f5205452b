use Rattle.std.proofs.Common.{◌∙◌}
use Rattle.tests_cores.proofs.cores.unread_of.Goals as goal

pub returns : goal.returns
returns c = c.changed_rows.ensures ∙ c.jobs_have_the_unread_rows.ensures _ _ _ _ c.requires
