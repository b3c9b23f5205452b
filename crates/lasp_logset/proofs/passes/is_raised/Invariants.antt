use Rattle.std.proofs.Common.{◌≡◌, nat_lt, length}
use Rattle.model_sets.specs.Rows.{level, mark}
use Rattle.lasp_logset.proofs.passes.is_raised.Given as goal

abbrev pub invariant-loop-entry : goal.invariant-loop-entry
invariant-loop-entry l = nat_lt (mark l.left l.name.0 l.name.1) (level l.dead) ≡ nat_lt (mark l.initial.left l.name.0 l.name.1) (level l.dead)

abbrev pub decreases-loop-entry : goal.decreases-loop-entry
decreases-loop-entry l = length l.left
