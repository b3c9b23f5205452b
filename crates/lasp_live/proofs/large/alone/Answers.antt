use Rattle.std.proofs.Common.{◌≡◌, ◌∙◌, sym, subst, arith}
use Rattle.std.specs.Arc.{arc_value}
use Rattle.lasp_core.specs.Core.{fresh_core}
use Rattle.lasp_live.specs.Large.{IsAloneAt}
use Rattle.lasp_live.proofs.LargeLaws.{alone-begins, alone-ends, alone-next, small-step}
use Rattle.lasp_live.proofs.large.alone.Goals as goal

pub new-requires-clause-member : goal.new-requires-clause-member
new-requires-clause-member c = omega (arith, c.requires.member, c.nodes.ensures)

pub new-requires-clause-few : goal.new-requires-clause-few
new-requires-clause-few c = omega (arith, c.requires.limits.nodes, c.nodes.ensures)

pub loop-i-init : goal.loop-i-init
loop-i-init c =
    let g = arc_value c.args.graph.now in
    let script = c.args.script.now in
    let fresh : c.in_ok-core.core ≡ fresh_core g c.args.p script.nodes = c.in_ok-core.ensures ∙ (λ i. fresh_core (c.in_ok-try_clone.ensures i) c.args.p (c.nodes.ensures i)) in
    subst (IsAloneAt g script c.args.p 0) (sym fresh) (alone-begins g script c.args.p)

pub do_alone-requires : goal.do_alone-requires
do_alone-requires c =
    small-step (arc_value c.args.graph.now) c.args.script.now c.args.p c.loop-i.i c.loop-i.core.frame.nodes c.at.result.now c.in_ok-step.step c.requires.lawful c.requires.live c.at.ensures c.in_ok-step.ensures

pub loop-i-preserved : goal.loop-i-preserved
loop-i-preserved c =
    alone-next (arc_value c.args.graph.now) c.args.script.now c.args.p c.loop-i.i c.at.result.now c.in_ok-step.step c.loop-i.core c.do_alone.new.core c.requires.lawful c.loop-i.invariant c.at.ensures c.in_ok-step.ensures c.in_ok-do_alone.ensures

pub returns : goal.returns
returns c = alone-ends (arc_value c.args.graph.now) c.args.script.now c.args.p c.loop-i.i c.loop-i.core c.loop-i.invariant (omega (arith, c.loop-i-test.false, c.len-i-end.ensures))
