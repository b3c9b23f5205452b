use Rattle.std.proofs.Common.{◌≡◌, ◌++◌, not, filter, length}
use Rattle.model_dots.specs.Dots.{is_counted}
use Rattle.lasp_dots.proofs.weave.push_rest.Given as goal

abbrev pub invariant-loop-dot : goal.invariant-loop-dot
invariant-loop-dot l = l.all ++ filter (λ r. not (is_counted l.counts r.0.1)) l.left ≡ l.fn.all ++ filter (λ r. not (is_counted l.counts r.0.1)) l.fn.left

abbrev pub decreases-loop-dot : goal.decreases-loop-dot
decreases-loop-dot l = length l.left
