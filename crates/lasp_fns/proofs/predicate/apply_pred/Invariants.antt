use Rattle.std.proofs.Common.{◌≡◌, map, drop}
use Rattle.model_functions.specs.Predicate.{passes}
use Rattle.lasp_value.specs.Value.{val_of}
use Rattle.lasp_fns.specs.Predicate.{pred_op_of}
use Rattle.lasp_fns.proofs.predicate.apply_pred.Given as goal

abbrev pub invariant-loop-op : goal.invariant-loop-op
invariant-loop-op l = passes (map pred_op_of (drop l.op-index l.op-items)) (val_of l.v) ≡ passes l.ops (val_of l.v)
