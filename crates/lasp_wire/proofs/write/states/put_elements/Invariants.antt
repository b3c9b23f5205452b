use Rattle.std.proofs.Common.{◌≡◌, ◌++◌, length}
use Rattle.std.specs.List.{flat_map, AllByRecursion}
use Rattle.model_graph.specs.Spelling.{spelled_value, spelled_values}
use Rattle.lasp_wire.specs.Written.{IsShort}
use Rattle.lasp_wire.proofs.write.states.put_elements.Given as goal

abbrev pub invariant-loop-value : goal.invariant-loop-value
invariant-loop-value l = (l.out.items ++ flat_map spelled_value l.values ≡ l.fn.out.items ++ spelled_values l.set) × AllByRecursion IsShort l.values

abbrev pub decreases-loop-value : goal.decreases-loop-value
decreases-loop-value l = length l.values
