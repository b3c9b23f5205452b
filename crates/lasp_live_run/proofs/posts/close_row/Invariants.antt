use Rattle.std.proofs.Common.{length}
use Rattle.lasp_live_run.proofs.PostLaws.{IsClosing}
use Rattle.lasp_live_run.proofs.posts.close_row.Given as goal

abbrev pub invariant-loop-outlet : goal.invariant-loop-outlet
invariant-loop-outlet l = IsClosing l.nodes l.q l.fn.row.items l.fn.ins.items l.fn.boxes.items l.boxes.items l.row.items l.ins.items

abbrev pub decreases-loop-outlet : goal.decreases-loop-outlet
decreases-loop-outlet l = length l.row.items
