use Rattle.std.proofs.Common.{◌≡◌, ◌++◌, map, drop}
use Rattle.lasp_fns.specs.Predicate.{pred_op_of}
use Rattle.lasp_fns.proofs.predicate.PredOps.try_clone.Given as goal

abbrev pub invariant-loop-item : goal.invariant-loop-item
invariant-loop-item l = map pred_op_of l.items.items ++ map pred_op_of (drop l.item-index l.item-items) ≡ map pred_op_of l.item-items
