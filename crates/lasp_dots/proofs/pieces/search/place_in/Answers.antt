use Rattle.std.proofs.Common.{sym, ◌∙◌, arith, ◌+◌, ◌-◌, ◌/◌}
use Rattle.lasp_dots.proofs.PartLaws.{search-init, found-pass, found-fail}
use Rattle.lasp_dots.proofs.pieces.search.place_in.Goals as goal

pub loop-low-init : goal.loop-low-init
loop-low-init g c = search-init (g.E.Edge.in_front c.args.edge.now) c.args.items.now

pub loop-low-preserved-then-passes : goal.loop-low-preserved-then-passes
loop-low-preserved-then-passes g c =
    let middle = found-pass (g.E.Edge.in_front c.args.edge.now) c.args.items.now (c.loop-low.low + (c.loop-low.high - c.loop-low.low) / 2) c.index-items-middle.result c.requires (omega (arith, c.loop-low-test.true, c.loop-low.invariant.2)) c.index-items-middle.is (sym c.passes.ensures ∙ c.if-passes.true) in
    (middle, c.loop-low.invariant.1, c.loop-low.invariant.2)

pub loop-low-preserved : goal.loop-low-preserved
loop-low-preserved g c =
    let middle = found-fail (g.E.Edge.in_front c.args.edge.now) c.args.items.now (c.loop-low.low + (c.loop-low.high - c.loop-low.low) / 2) c.index-items-middle.result c.requires (omega (arith, c.loop-low-test.true, c.loop-low.invariant.2)) c.index-items-middle.is (sym c.passes.ensures ∙ c.if-passes.false) in
    (c.loop-low.invariant.0, middle, omega (arith, c.loop-low-test.true, c.loop-low.invariant.2))
