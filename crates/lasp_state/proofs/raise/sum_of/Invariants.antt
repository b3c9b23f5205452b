use Rattle.std.proofs.Common.{◌≡◌, ◌+◌, sum, drop}
use Rattle.lasp_state.proofs.raise.sum_of.Given as goal

abbrev pub invariant-loop-count : goal.invariant-loop-count
invariant-loop-count l = l.total + sum (drop l.count-index l.counts) ≡ sum l.counts
