use Rattle.lasp_replica.proofs.SettledLaws.{small-var}
use Rattle.lasp_replica.proofs.replica.Replica.first_unclean.Goals as goal

pub overflow_cast-result : goal.overflow_cast-result
overflow_cast-result c = record { fits = small-var c.args.self.now c.requires c.loop-y.y c.len-y-end.result c.loop-y-test.true c.len-y-end.ensures }
