use Rattle.std.proofs.Common.{◌≡◌, ◌≤◌, replicate, None}
use Rattle.lasp_delta.proofs.run.deltas.none_sent.Given as goal

abbrev pub invariant-loop : goal.invariant-loop
invariant-loop l = (l.last.items ≡ replicate l.counter None) × (l.counter ≤ l.nodes)
