use Rattle.std.proofs.Common.{◌≡◌, ◌++◌, length, take, drop}
use Rattle.lasp_wire.proofs.read.states.counter_of.Given as goal

abbrev pub invariant-loop-i : goal.invariant-loop-i
invariant-loop-i l = (take l.i l.counter ++ drop l.i l.counts ≡ l.counts) × (length l.counter ≡ length l.counts)
