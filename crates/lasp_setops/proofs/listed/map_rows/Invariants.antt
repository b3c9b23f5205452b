use Rattle.std.proofs.Common.{◌≡◌, ◌≤◌, ◌+◌, map, take}
use Rattle.model_functions.specs.Map.{mapped}
use Rattle.model_sets.specs.Equations.{moved}
use Rattle.lasp_fns.specs.Library.{map_ops_at}
use Rattle.lasp_fns.specs.Steps.{library_of, ticks_of}
use Rattle.lasp_setops.proofs.listed.map_rows.Given as goal

abbrev pub invariant-loop-row : goal.invariant-loop-row
invariant-loop-row g l = (l.out.items ≡ map (moved (mapped (map_ops_at (library_of l.fn.lib) l.f))) (take l.row-index l.rows)) × (library_of l.lib ≡ library_of l.fn.lib) × (ticks_of l.lib ≤ ticks_of l.fn.lib + l.row-index)
