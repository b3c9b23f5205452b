use Rattle.std.proofs.Common.{◌≡◌, ◌≤◌, ◌+◌, take}
use Rattle.model_functions.specs.Predicate.{passes}
use Rattle.model_sets.specs.Equations.{filter_set}
use Rattle.lasp_fns.specs.Library.{pred_ops_at}
use Rattle.lasp_fns.specs.Steps.{library_of, ticks_of}
use Rattle.lasp_setops.proofs.listed.filter_rows.Given as goal

abbrev pub invariant-loop-row : goal.invariant-loop-row
invariant-loop-row g l = (l.out.items ≡ filter_set (passes (pred_ops_at (library_of l.fn.lib) l.p)) (take l.row-index l.rows)) × (library_of l.lib ≡ library_of l.fn.lib) × (ticks_of l.lib ≤ ticks_of l.fn.lib + l.row-index)
