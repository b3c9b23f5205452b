use Rattle.std.proofs.Common.{◌+◌, ◌-◌, ◌/◌, nat_lt, ap, ◌∙◌, arith}
use Rattle.lasp_log.specs.Log.{joined}
use Rattle.lasp_dots.specs.Pieces.{many}
use Rattle.lasp_dots.proofs.PartLaws.{many-small}
use Rattle.lasp_dots.proofs.PieceLaws.{offset-all, filled-piece, parted-piece, begins-before, begins-behind}
use Rattle.lasp_dots.proofs.pieces.search.piece_of.Goals as goal

pub loop-high-init : goal.loop-high-init
loop-high-init g c = record {
  order = omega (arith, c.requires.some);
  within = omega arith;
  low = λ none. absurd (omega (arith, none));
  high = omega (arith, many-small (g.E.Edge.in_front c.args.edge.now) (joined c.args.pieces.now), offset-all c.args.pieces.now);
}

pub begins_before-requires-clause-some : goal.begins_before-requires-clause-some
begins_before-requires-clause-some g c =
    rw c.items-items.ensures
    (filled-piece c.args.pieces.now (c.loop-high.low + (c.loop-high.high - c.loop-high.low) / 2) c.index-pieces-middle.result c.requires.filled (omega (arith, c.loop-high-test.true, c.loop-high.invariant.within))
    c.index-pieces-middle.is)

pub begins_before-requires-clause-parted : goal.begins_before-requires-clause-parted
begins_before-requires-clause-parted g c =
    rw c.items-items.ensures
    (parted-piece (g.E.Edge.in_front c.args.edge.now) c.args.pieces.now (c.loop-high.low + (c.loop-high.high - c.loop-high.low) / 2) c.index-pieces-middle.result c.requires.parted
    (omega (arith, c.loop-high-test.true, c.loop-high.invariant.within)) c.index-pieces-middle.is)

pub loop-high-preserved-then-begins_before : goal.loop-high-preserved-then-begins_before
loop-high-preserved-then-begins_before g c = record {
  order = omega (arith, c.loop-high-test.true);
  within = c.loop-high.invariant.within;
  low = λ _.
      begins-before (g.E.Edge.in_front c.args.edge.now) c.args.pieces.now (c.loop-high.low + (c.loop-high.high - c.loop-high.low) / 2) c.index-pieces-middle.result c.begins_before.result c.requires.parted
      (omega (arith, c.loop-high-test.true, c.loop-high.invariant.within)) c.index-pieces-middle.is
      (c.begins_before.ensures ∙ ap (λ s. nat_lt 0 (many (g.E.Edge.in_front c.args.edge.now) s)) c.items-items.ensures) c.if-begins_before.true;
  high = c.loop-high.invariant.high;
}

pub loop-high-preserved : goal.loop-high-preserved
loop-high-preserved g c = record {
  order = omega (arith, c.loop-high-test.true);
  within = omega (arith, c.loop-high-test.true, c.loop-high.invariant.within);
  low = c.loop-high.invariant.low;
  high =
      begins-behind (g.E.Edge.in_front c.args.edge.now) c.args.pieces.now (c.loop-high.low + (c.loop-high.high - c.loop-high.low) / 2) c.index-pieces-middle.result c.begins_before.result c.requires.filled c.requires.parted
      (omega (arith, c.loop-high-test.true, c.loop-high.invariant.within)) c.index-pieces-middle.is
      (c.begins_before.ensures ∙ ap (λ s. nat_lt 0 (many (g.E.Edge.in_front c.args.edge.now) s)) c.items-items.ensures) c.if-begins_before.false;
}
