use Rattle.std.proofs.Common.{length}
use Rattle.model_functions.specs.Predicate.{passes}
use Rattle.model_sets.specs.Equations.{filter_set}
use Rattle.lasp_fns.specs.Stored.{conditions_of}
use Rattle.lasp_setops.specs.Joined.{IsJoinedUpTo}
use Rattle.lasp_setops.specs.Width.{IsSetOfWidth}
use Rattle.lasp_setops.proofs.filter.filter_set.Given as goal

abbrev pub invariant-loop-row : goal.invariant-loop-row
invariant-loop-row g l = IsJoinedUpTo l.out (filter_set (passes (conditions_of l.p)) l.rows) (filter_set (passes (conditions_of l.p)) l.x) × IsSetOfWidth 16 l.rows

abbrev pub decreases-loop-row : goal.decreases-loop-row
decreases-loop-row g l = length l.rows
