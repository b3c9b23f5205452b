use Rattle.std.proofs.Common.{◌+◌, ◌*◌, length}
use Rattle.lasp_threads.proofs.aside.+work_beside.Given as goal

abbrev pub decreases-others : goal.decreases-others
decreases-others g l = 2 * length l.workers.items + 1

abbrev pub decreases-work_beside : goal.decreases-work_beside
decreases-work_beside g l = 2 * length l.workers.items
