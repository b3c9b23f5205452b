use Rattle.std.proofs.Common.{arith}
use Rattle.lasp_logset.proofs.WeightLaws.{next_bounded}
use Rattle.lasp_logset.proofs.changes.weight_of.Goals as goal

pub loop-row-preserved : goal.loop-row-preserved
loop-row-preserved c =
    next_bounded c.args.rows.now c.loop-row.row-index c.row-item.result c.loop-row.weight c.entry_weight.result c.saturating_add-weight.result c.loop-row-test.true c.row-item.is c.loop-row.invariant c.entry_weight.ensures (omega arith)
