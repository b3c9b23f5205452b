use Rattle.std.proofs.Common.{ℕ}
use Rattle.std.specs.Arc.{arc_value}
use Rattle.lasp_live.specs.Large.{IsTogetherFrom}
use Rattle.lasp_live.proofs.large.together.Given as goal

abbrev pub invariant-loop-p : goal.invariant-loop-p
invariant-loop-p l = (many : ℕ) × IsTogetherFrom (arc_value l.graph) l.script l.p many l.all

abbrev pub decreases-loop-p : goal.decreases-loop-p
decreases-loop-p l = l.p
