use Rattle.std.proofs.Common.{◌≡◌}
use Rattle.model_states.specs.Counts.{larger}
use Rattle.model_deltas.specs.Applied.{joined_sources}
use Rattle.lasp_delta.proofs.BegunLaws.{IsBegun}
use Rattle.lasp_delta.proofs.JoinLaws.{large_from}
use Rattle.lasp_delta.proofs.application.join_messages.Given as goal

abbrev pub invariant-loop-i : goal.invariant-loop-i
invariant-loop-i l =
    IsBegun (larger l.base.counts l.more.counts) (joined_sources l.base.sources l.more.sources) l.i l.all
    × (large_from (joined_sources l.base.sources l.more.sources) l.i ≡ large_from (joined_sources l.base.sources l.more.sources) 0)
