use Rattle.std.proofs.Common.{ℕ, ◌<◌, ◌≤◌}
use Rattle.model_states.specs.Counts.{count_at}
use Rattle.lasp_state.proofs.raise.are_at_most.Given as goal

abbrev pub invariant-loop-i : goal.invariant-loop-i
invariant-loop-i l = (node : ℕ) → node < l.i → count_at l.counts node ≤ count_at l.others node
