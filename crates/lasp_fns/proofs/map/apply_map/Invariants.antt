use Rattle.std.proofs.Common.{◌≡◌, map, drop}
use Rattle.model_values.specs.Size.{IsSized}
use Rattle.model_functions.specs.Map.{mapped}
use Rattle.lasp_value.specs.Value.{val_of}
use Rattle.lasp_fns.specs.Map.{map_op_of}
use Rattle.lasp_fns.proofs.map.apply_map.Given as goal

abbrev pub invariant-loop-op : goal.invariant-loop-op
invariant-loop-op l = (mapped (map map_op_of (drop l.op-index l.rest)) (val_of l.value) ≡ mapped l.ops (val_of l.v)) × IsSized (val_of l.value)
