use Rattle.std.proofs.Common.{◌≡◌, ◌≤◌, replicate}
use Rattle.lasp_delta.proofs.run.act.nothing_told.Given as goal

abbrev pub invariant-loop : goal.invariant-loop
invariant-loop l = (l.counts ≡ replicate l.counter 0) × (l.counter ≤ l.nodes)
