use Rattle.lasp_setops.proofs.WidthLaws.{width-number}
use Rattle.tests_processes.proofs.made.rows.Goals as goal

pub loop-n-preserved : goal.loop-n-preserved
loop-n-preserved c = width-number c.loop-n.set c.add.new.self c.in_ok-row.row _ 0 _ _ c.loop-n.invariant c.in_ok-row.ensures c.in_ok-add.ensures.ok
