use Rattle.std.proofs.Common.{◌↔◌, drop}
use Rattle.model_deltas.specs.Before.{AreSourcesAlike}
use Rattle.lasp_delta.proofs.delta.are_alike.Given as goal

abbrev pub invariant-loop-i : goal.invariant-loop-i
invariant-loop-i l = AreSourcesAlike (drop l.i l.base.sources) (drop l.i l.more.sources) ↔ AreSourcesAlike l.base.sources l.more.sources
