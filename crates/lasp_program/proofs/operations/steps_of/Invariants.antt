use Rattle.std.proofs.Common.{◌≡◌, map, take}
use Rattle.lasp_fns.specs.Map.{map_op_of}
use Rattle.lasp_program.proofs.operations.steps_of.Given as goal

abbrev pub invariant-loop-step : goal.invariant-loop-step
invariant-loop-step l = l.ops ≡ map map_op_of (take l.step-index l.steps)
