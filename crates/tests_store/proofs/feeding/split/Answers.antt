use Rattle.std.specs.Arc.{arc_value}
use Rattle.tests_store.proofs.Passes.{feed-split, hand-split}
use Rattle.tests_store.proofs.feeding.split.Goals as goal

pub returns-clause-feed : goal.returns-clause-feed
returns-clause-feed c = feed-split c.args.store.now (arc_value c.args.graph.now) c.args.f.now c.split_hand.new.f c.split_hand.ensures.pass c.requires.feed

pub returns-clause-hand : goal.returns-clause-hand
returns-clause-hand c = hand-split c.args.store.now (arc_value c.args.graph.now) c.args.f.now c.split_hand.result c.split_hand.ensures.hand c.requires.feed
