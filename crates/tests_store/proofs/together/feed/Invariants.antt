use Rattle.std.specs.Arc.{arc_value}
use Rattle.tests_store.specs.Kept.{IsFeed}
use Rattle.tests_store.proofs.together.feed.Given as goal

abbrev pub invariant-loop-n : goal.invariant-loop-n
invariant-loop-n g l = IsFeed l.store (arc_value l.graph) l.f
