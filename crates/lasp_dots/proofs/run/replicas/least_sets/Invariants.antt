use Rattle.std.proofs.Common.{◌≡◌}
use Rattle.std.specs.Prelude.{replicate}
use Rattle.model_dots.specs.Dots.{no_dots}
use Rattle.lasp_dots.proofs.run.replicas.least_sets.Given as goal

abbrev pub invariant-loop-p : goal.invariant-loop-p
invariant-loop-p l = l.sets.items ≡ replicate l.p (no_dots l.nodes)
