use Rattle.std.proofs.Common.{◌≡◌, map, length}
use Rattle.model_values.specs.Size.{IsSized}
use Rattle.model_functions.specs.Map.{mapped}
use Rattle.lasp_value.specs.Value.{val_of}
use Rattle.lasp_fns.specs.Map.{map_op_of}
use Rattle.lasp_fns.proofs.map.reached.Given as goal

abbrev pub invariant-loop-op : goal.invariant-loop-op
invariant-loop-op l = (mapped (map map_op_of l.rest) (val_of l.part) ≡ mapped (map map_op_of l.ops) (val_of l.v)) × IsSized (val_of l.part)

abbrev pub decreases-loop-op : goal.decreases-loop-op
decreases-loop-op l = length l.rest
