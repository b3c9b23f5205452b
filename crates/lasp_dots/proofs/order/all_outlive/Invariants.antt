use Rattle.std.proofs.Common.{◌≡◌, length}
use Rattle.std.specs.List.{list_all}
use Rattle.model_dots.specs.Dots.{outlives}
use Rattle.lasp_dots.proofs.order.all_outlive.Given as goal

abbrev pub invariant-loop-other : goal.invariant-loop-other
invariant-loop-other l =
    list_all (λ r. outlives (record { rows = l.dots; counts = l.counts }) r.0) l.left ≡ list_all (λ r. outlives (record { rows = l.dots; counts = l.counts }) r.0) l.others

abbrev pub decreases-loop-other : goal.decreases-loop-other
decreases-loop-other l = length l.left
