use Rattle.std.proofs.Common.{◌≡◌, drop}
use Rattle.model_deltas.specs.Applied.{first_gap}
use Rattle.lasp_delta.proofs.application.check_gap.Given as goal

abbrev pub invariant-loop-i : goal.invariant-loop-i
invariant-loop-i l = first_gap l.i l.counts (drop l.i l.from) ≡ first_gap 0 l.counts l.from
