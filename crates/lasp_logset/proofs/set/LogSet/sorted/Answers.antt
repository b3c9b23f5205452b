use Rattle.lasp_logset.proofs.KeptLaws.{sorted-done}
use Rattle.lasp_logset.proofs.set.LogSet.sorted.Goals as goal

pub returns : goal.returns
returns c =
    sorted-done c.args.self.now c.iter-rows.result c.loop-row.sorted.items c.loop-row.rows c.sort.new.self.items c.loop-row.invariant c.in_default.ensures.none c.iter-rows.ensures.apart c.iter-rows.ensures.rows
    c.sort.ensures.permutation c.in_ok-sort.ensures.sorted
