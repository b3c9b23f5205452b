use Rattle.std.proofs.Common.{◌≡◌, ◌↔◌, map, drop}
use Rattle.lasp_fns.specs.Predicate.{pred_op_of}
use Rattle.lasp_fns.proofs.predicate.are_same.Given as goal

abbrev pub invariant-loop-condition : goal.invariant-loop-condition
invariant-loop-condition l = (map pred_op_of (drop l.condition-index l.conditions) ≡ map pred_op_of l.rest) ↔ (map pred_op_of l.conditions ≡ map pred_op_of l.others)
