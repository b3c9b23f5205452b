use Rattle.std.specs.Arc.{arc_value}
use Rattle.lasp_live.specs.Large.{IsAloneAt}
use Rattle.lasp_live.proofs.large.alone.Given as goal

abbrev pub invariant-loop-i : goal.invariant-loop-i
invariant-loop-i l = IsAloneAt (arc_value l.graph) l.script l.p l.i l.core
