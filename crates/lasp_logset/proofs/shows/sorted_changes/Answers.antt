use Rattle.lasp_logset.proofs.PassLaws.{sorted-all}
use Rattle.lasp_logset.proofs.shows.sorted_changes.Goals as goal

pub returns : goal.returns
returns c = sorted-all c.args.log.now.items c.loop-entry.sorted.items c.loop-entry.left c.sort.new.self.items c.loop-entry.invariant c.in_default.ensures.none c.sort.ensures.permutation c.in_ok-sort.ensures.sorted
