use Rattle.std.proofs.Common.{◌≡◌}
use Rattle.tests_store.proofs.working.do_jobs.Given as goal

abbrev pub invariant-loop : goal.invariant-loop
invariant-loop g l = g.J.Jobs.place l.replica ≡ g.J.Jobs.place l.fn.replica
