use Rattle.std.proofs.Common.{◌≡◌, ◌+◌, ◌++◌, length}
use Rattle.model_dots.specs.Loops.{weave}
use Rattle.lasp_dots.proofs.weave.woven.Given as goal

abbrev pub invariant-loop-dot : goal.invariant-loop-dot
invariant-loop-dot l = l.all ++ weave l.counts l.other_counts l.left l.right ≡ weave l.counts l.other_counts l.dots l.others

abbrev pub decreases-loop-dot : goal.decreases-loop-dot
decreases-loop-dot l = length l.left + length l.right
