use Rattle.std.proofs.Common.{◌≡◌, ℕ, List, length}
use Rattle.model_states.specs.Counts.{AreCountsAtMost}
use Rattle.lasp_store_node.proofs.counted.raise.Given as goal

abbrev pub invariant-loop-i : goal.invariant-loop-i
invariant-loop-i l = record {
  long : length l.known ≡ length l.fn.known;
  bound : (most : List ℕ) → AreCountsAtMost l.fn.known most → AreCountsAtMost l.counts most → AreCountsAtMost l.known most;
}
