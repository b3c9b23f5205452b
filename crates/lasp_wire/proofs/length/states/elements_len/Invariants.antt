use Rattle.std.proofs.Common.{◌≡◌, ◌+◌, length}
use Rattle.std.specs.List.{flat_map}
use Rattle.model_graph.specs.Spelling.{spelled_value, spelled_values}
use Rattle.lasp_wire.proofs.length.states.elements_len.Given as goal

abbrev pub invariant-loop-value : goal.invariant-loop-value
invariant-loop-value l = l.len + length (flat_map spelled_value l.values) ≡ length (spelled_values l.set)

abbrev pub decreases-loop-value : goal.decreases-loop-value
decreases-loop-value l = length l.values
