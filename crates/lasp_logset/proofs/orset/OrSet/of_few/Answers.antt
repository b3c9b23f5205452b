use Rattle.lasp_logset.proofs.GrownLaws.{rows-more}
use Rattle.lasp_logset.proofs.orset.OrSet.of_few.Goals as goal

pub loop-row-preserved : goal.loop-row-preserved
loop-row-preserved c =
    rows-more c.args.rows.now c.loop-row.row-index c.row-item.result c.in_ok-try_clone.field-0 c.loop-row.set c.add.new.self c.loop-row-test.true c.row-item.is c.in_ok-try_clone.ensures c.loop-row.invariant c.in_ok-add.ensures.ok
