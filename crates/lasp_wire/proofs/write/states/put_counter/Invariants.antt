use Rattle.std.proofs.Common.{◌≡◌, ◌++◌, take}
use Rattle.model_graph.specs.Spelling.{spelled_counts}
use Rattle.lasp_wire.proofs.write.states.put_counter.Given as goal

abbrev pub invariant-loop-i : goal.invariant-loop-i
invariant-loop-i l = l.out.items ≡ l.fn.out.items ++ spelled_counts (take l.i l.counter)
