use Rattle.lasp_logset.proofs.GrownLaws.{small-more}
use Rattle.lasp_logset.proofs.orset.recall_all.Goals as goal

pub loop-row-preserved : goal.loop-row-preserved
loop-row-preserved c = small-more c.args.rows.now c.loop-row.row-index c.row-item.result c.loop-row-test.true c.row-item.is c.recall_ints.ensures c.loop-row.invariant
