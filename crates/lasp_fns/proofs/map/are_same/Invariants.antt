use Rattle.std.proofs.Common.{◌≡◌, ◌↔◌, map, drop}
use Rattle.lasp_fns.specs.Map.{map_op_of}
use Rattle.lasp_fns.proofs.map.are_same.Given as goal

abbrev pub invariant-loop-step : goal.invariant-loop-step
invariant-loop-step l = (map map_op_of (drop l.step-index l.steps) ≡ map map_op_of l.rest) ↔ (map map_op_of l.steps ≡ map map_op_of l.others)
