use Rattle.std.proofs.Common.{◌≡◌, map, take}
use Rattle.lasp_program.specs.Tables.{condition_view}
use Rattle.lasp_program.proofs.operations.conditions_of.Given as goal

abbrev pub invariant-loop-condition : goal.invariant-loop-condition
invariant-loop-condition l = l.ops ≡ map condition_view (take l.condition-index l.conditions)
