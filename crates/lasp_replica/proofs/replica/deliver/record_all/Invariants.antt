use Rattle.lasp_replica.specs.Delivery.{AreRecordedTo}
use Rattle.lasp_replica.proofs.replica.deliver.record_all.Given as goal

abbrev pub invariant-loop-x : goal.invariant-loop-x
invariant-loop-x l = AreRecordedTo l.x l.grow l.entry l.fn.histories.items l.histories.items
