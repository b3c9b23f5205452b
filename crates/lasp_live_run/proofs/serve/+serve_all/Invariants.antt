use Rattle.std.proofs.Common.{◌+◌, ◌*◌, length}
use Rattle.lasp_live_run.proofs.serve.+serve_all.Given as goal

abbrev pub decreases-others : goal.decreases-others
decreases-others g l = 2 * length l.duties.items + 1

abbrev pub decreases-serve_all : goal.decreases-serve_all
decreases-serve_all g l = 2 * length l.duties.items
