use Rattle.std.specs.Arc.{arc_value}
use Rattle.model_graph.specs.Graph.{kind_at}
use Rattle.lasp_graph.specs.Evaluated.{second_of}
use Rattle.lasp_graph.proofs.DeltaLaws.{change-of, before-of}
use Rattle.lasp_graph.proofs.delta.node_delta.Goals as goal

pub node_increment-requires-in_default-clause-old : goal.node_increment-requires-in_default-clause-old
node_increment-requires-in_default-clause-old g c =
    before-of (kind_at c.args.g.now c.args.var) (arc_value c.args.base.now.first) (second_of c.args.base.now) (arc_value c.args.inputs.now.first) (second_of c.args.inputs.now) c.in_ok-first.first c.in_ok-second-in_default.second c.args.old.now
    c.requires.base_sets.0 c.requires.base_sets.1
    (change-of c.deref.result.now (arc_value c.args.base.now.first) c.deref-2.result.now (arc_value c.args.inputs.now.first) c.in_ok-first.first c.deref.ensures c.deref-2.ensures c.in_ok-first.ensures.change c.requires.more.0)
    (change-of c.second_of.result.now (second_of c.args.base.now) c.second_of-in_default.result.now (second_of c.args.inputs.now) c.in_ok-second-in_default.second c.second_of.ensures c.second_of-in_default.ensures c.in_ok-second-in_default.ensures.change c.requires.more.1)
    c.requires.old
