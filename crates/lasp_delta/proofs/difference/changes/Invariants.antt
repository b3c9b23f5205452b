use Rattle.model_deltas.specs.Delta.{changed_sources}
use Rattle.lasp_delta.proofs.BegunLaws.{IsBegun}
use Rattle.lasp_delta.proofs.difference.changes.Given as goal

abbrev pub invariant-loop-i : goal.invariant-loop-i
invariant-loop-i l = IsBegun l.after.counts (changed_sources l.before.sources 0 l.after.sources) l.i l.changes
