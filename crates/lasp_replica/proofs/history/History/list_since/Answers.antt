use Rattle.lasp_replica.specs.History.{rows_before}
use Rattle.lasp_replica.proofs.RowsLaws.{rises-last}
use Rattle.lasp_replica.proofs.history.History.list_since.Goals as goal

pub of_log-requires : goal.of_log-requires
of_log-requires c = rises-last c.args.self.now.history.log c.in-Some.rows.now (rows_before c.args.self.now.history.growths c.args.n) c.in-Some.ensures.some c.requires
