use Rattle.std.proofs.Common.{◌≡◌, map, take}
use Rattle.lasp_replica.specs.Parts.{fresh_state}
use Rattle.lasp_replica.proofs.replica.least.fresh_states.Given as goal

abbrev pub invariant-loop-x : goal.invariant-loop-x
invariant-loop-x l = l.states ≡ map (fresh_state l.nodes) (take l.x l.graph)
