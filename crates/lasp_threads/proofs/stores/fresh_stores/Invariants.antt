use Rattle.std.specs.Arc.{arc_value}
use Rattle.lasp_threads.proofs.StoreLaws.{AreMade}
use Rattle.lasp_threads.proofs.stores.fresh_stores.Given as goal

abbrev pub invariant-loop-p : goal.invariant-loop-p
invariant-loop-p l = AreMade (arc_value l.graph) l.nodes l.p l.stores.items l.feeds.items
