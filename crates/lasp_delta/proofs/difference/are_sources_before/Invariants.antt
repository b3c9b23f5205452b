use Rattle.std.proofs.Common.{◌↔◌, drop}
use Rattle.model_deltas.specs.Before.{AreSourcesBefore}
use Rattle.lasp_delta.proofs.difference.are_sources_before.Given as goal

abbrev pub invariant-loop-i : goal.invariant-loop-i
invariant-loop-i l = AreSourcesBefore (drop l.i l.before.sources) (drop l.i l.after.sources) ↔ AreSourcesBefore l.before.sources l.after.sources
