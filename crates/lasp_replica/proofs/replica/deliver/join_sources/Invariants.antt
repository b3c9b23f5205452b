use Rattle.std.proofs.Common.{◌≡◌, map}
use Rattle.lasp_replica.specs.Replica.{told}
use Rattle.lasp_replica.specs.Delivery.{AreTaken}
use Rattle.lasp_replica.proofs.replica.deliver.join_sources.Given as goal

abbrev pub invariant-loop-x : goal.invariant-loop-x
invariant-loop-x l = record {
  taken : AreTaken l.graph l.message l.fn.states l.x l.i l.states l.histories.items l.grow.items;
  told : map told l.histories.items ≡ map told l.fn.histories.items;
}
