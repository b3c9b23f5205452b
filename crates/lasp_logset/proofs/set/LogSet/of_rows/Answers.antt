use Rattle.model_sets.specs.Rows.{of_rows}
use Rattle.lasp_logset.proofs.WholeLaws.{added-rows}
use Rattle.lasp_logset.proofs.GrownLaws.{rows-more}
use Rattle.lasp_logset.proofs.set.LogSet.of_rows.Goals as goal

pub loop-row-preserved : goal.loop-row-preserved
loop-row-preserved c =
    rows-more c.args.rows.now c.loop-row.row-index c.row-item.result c.in_ok-try_clone.field-0 (of_rows c.loop-row.set) (of_rows c.add.new.self) c.loop-row-test.true c.row-item.is c.in_ok-try_clone.ensures c.loop-row.invariant (added-rows c.loop-row.set c.add.new.self c.in_ok-try_clone.field-0 c.in_ok-add.ensures.ok)
