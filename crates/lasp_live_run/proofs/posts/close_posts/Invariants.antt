use Rattle.std.proofs.Common.{length}
use Rattle.lasp_live_run.proofs.PostLaws.{AreClosing}
use Rattle.lasp_live_run.proofs.posts.close_posts.Given as goal

abbrev pub invariant-loop-row : goal.invariant-loop-row
invariant-loop-row l = AreClosing l.nodes (length l.outs.items) l.fn.posts.outs.items l.fn.posts.ins.items l.boxes.items l.outs.items l.ins.items

abbrev pub decreases-loop-row : goal.decreases-loop-row
decreases-loop-row l = length l.outs.items
