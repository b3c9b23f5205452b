use Rattle.std.specs.Option.{option_map}
use Rattle.std.specs.Arc.{arc_value}
use Rattle.lasp_live.specs.Posted.{ArePutBefore}
use Rattle.lasp_live.proofs.post.post.Given as goal

abbrev pub invariant-loop-p : goal.invariant-loop-p
invariant-loop-p g l = ArePutBefore l.me l.p (option_map arc_value l.message) l.fn.outs.items l.outs.items
