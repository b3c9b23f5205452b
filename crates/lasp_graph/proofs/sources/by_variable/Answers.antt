use Rattle.std.proofs.Common.{ap, ◌∙◌, arith}
use Rattle.std.specs.Arc.{arc_value}
use Rattle.lasp_graph.specs.Kind.{kind_of}
use Rattle.lasp_graph.specs.States.{held_of}
use Rattle.lasp_graph.proofs.SourceLists.{placed-start, placed-place, placed-step, placed-end, nothing-is}
use Rattle.lasp_graph.proofs.sources.by_variable.Goals as goal

pub loop-var-init : goal.loop-var-init
loop-var-init c = rw (c.new-states.ensures) (placed-start c.args.g.now c.args.sources.now c.requires.all)

pub add_given-requires : goal.add_given-requires
add_given-requires c =
    placed-place c.args.g.now c.args.sources.now c.loop-var.states c.loop-var.var c.loop-var.next (kind_of c.at.result.now.kind) (omega arith) c.at.ensures.kind c.loop-var.invariant

pub loop-var-preserved : goal.loop-var-preserved
loop-var-preserved c =
    placed-step c.args.g.now c.args.sources.now c.loop-var.states c.add_given.new.states c.loop-var.var c.loop-var.next c.in_ok-next.next (kind_of c.at.result.now.kind) (held_of (arc_value c.in_ok-nothing.nothing)) (omega arith) c.at.ensures.kind (ap held_of c.in_ok-nothing.ensures.ok ∙ nothing-is c.empty_set.result c.empty_set.ensures.content c.empty_set.ensures.shape c.empty_set.ensures.number) c.in_ok-next.ensures.state c.in_ok-next.ensures.next c.loop-var.invariant

pub returns : goal.returns
returns c = placed-end c.args.g.now c.args.sources.now c.loop-var.states c.loop-var.var c.loop-var.next (omega arith) c.loop-var.invariant
