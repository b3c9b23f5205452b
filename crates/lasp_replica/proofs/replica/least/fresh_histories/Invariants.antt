use Rattle.std.proofs.Common.{◌≡◌, map}
use Rattle.std.specs.Prelude.{replicate}
use Rattle.lasp_replica.specs.History.{no_history}
use Rattle.lasp_replica.specs.Replica.{told}
use Rattle.lasp_replica.proofs.replica.least.fresh_histories.Given as goal

abbrev pub invariant-loop : goal.invariant-loop
invariant-loop l = map told l.histories.items ≡ replicate l.counter no_history
