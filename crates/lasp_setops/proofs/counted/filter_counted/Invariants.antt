use Rattle.std.proofs.Common.{◌≡◌, ◌≤◌, ◌+◌, length}
use Rattle.model_functions.specs.Predicate.{passes}
use Rattle.model_sets.specs.Equations.{filter_set}
use Rattle.lasp_fns.specs.Library.{pred_ops_at}
use Rattle.lasp_fns.specs.Steps.{library_of, ticks_of}
use Rattle.lasp_setops.specs.Joined.{IsJoinedUpTo}
use Rattle.lasp_setops.specs.Width.{IsSetOfWidth}
use Rattle.lasp_setops.proofs.counted.filter_counted.Given as goal

abbrev pub invariant-loop-row : goal.invariant-loop-row
invariant-loop-row g l = IsJoinedUpTo l.out (filter_set (passes (pred_ops_at (library_of l.fn.lib) l.p)) l.rows) (filter_set (passes (pred_ops_at (library_of l.fn.lib) l.p)) l.x) × IsSetOfWidth 16 l.rows × (library_of l.lib ≡ library_of l.fn.lib) × (ticks_of l.lib + length l.rows ≤ ticks_of l.fn.lib + length l.x)

abbrev pub decreases-loop-row : goal.decreases-loop-row
decreases-loop-row g l = length l.rows
