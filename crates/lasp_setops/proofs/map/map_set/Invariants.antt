use Rattle.std.proofs.Common.{length, map}
use Rattle.model_functions.specs.Map.{mapped}
use Rattle.model_sets.specs.Equations.{moved, map_set}
use Rattle.lasp_fns.specs.Stored.{ops_of}
use Rattle.lasp_setops.specs.Joined.{IsJoinedUpTo}
use Rattle.lasp_setops.specs.Width.{IsSetOfWidth}
use Rattle.lasp_setops.proofs.map.map_set.Given as goal

abbrev pub invariant-loop-row : goal.invariant-loop-row
invariant-loop-row g l = IsJoinedUpTo l.out (map (moved (mapped (ops_of l.f))) l.rows) (map_set (mapped (ops_of l.f)) l.x) × IsSetOfWidth 16 l.rows

abbrev pub decreases-loop-row : goal.decreases-loop-row
decreases-loop-row g l = length l.rows
