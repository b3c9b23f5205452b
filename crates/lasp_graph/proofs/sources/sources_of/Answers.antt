use Rattle.std.proofs.Common.{refl, arith}
use Rattle.std.specs.Arc.{arc_value}
use Rattle.lasp_graph.specs.Kind.{kind_of}
use Rattle.lasp_graph.specs.States.{held_of}
use Rattle.lasp_graph.proofs.SourceLists.{source-step, sources-end}
use Rattle.lasp_graph.proofs.sources.sources_of.Goals as goal

pub loop-var-preserved : goal.loop-var-preserved
loop-var-preserved c =
    source-step c.args.g.now c.args.states.now c.loop-var.sources c.add_source.new.sources c.loop-var.var (kind_of c.at.result.now.kind) (held_of (arc_value c.at-state.result.now)) (omega arith) c.at.ensures.kind c.at-state.ensures
    c.in_ok-add_source.ensures c.loop-var.invariant

pub returns : goal.returns
returns c = sources-end c.args.g.now c.args.states.now c.loop-var.sources c.loop-var.var (omega arith) c.loop-var.invariant
