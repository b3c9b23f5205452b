use Rattle.std.proofs.Common.{arith}
use Rattle.lasp_value.specs.Value.{val_of}
use Rattle.lasp_logset.proofs.LiveLaws.{buried-more, left-before, live-within}
use Rattle.lasp_logset.proofs.buried.bury_rest.Goals as goal

pub loop-place-init : goal.loop-place-init
loop-place-init c = record {
  buried = c.requires.buried;
  left = λ i left. c.scan_live-place.ensures.passed i (left.0, left.1) (c.requires.left i left);
  next = c.scan_live-place.ensures.found;
}

pub loop-place-preserved : goal.loop-place-preserved
loop-place-preserved c = record {
  buried = buried-more c.args.rows.now.entries c.loop-place.delta c.bury.new.delta (val_of c.args.value.now) c.loop-place.place c.in_ok-bury.ensures c.loop-place.invariant.buried;
  left = λ i left.
      let before = left-before c.args.rows.now.entries c.loop-place.delta c.bury.new.delta (val_of c.args.value.now) c.loop-place.place c.in_ok-bury.ensures i left in
      let low = c.loop-place.invariant.left i before.0 in
      c.scan_live-place-in-loop-place.ensures.passed i (left.0, left.1) (omega (arith, low, before.1));
  next = c.scan_live-place-in-loop-place.ensures.found;
}

pub returns-clause-left : goal.returns-clause-left
returns-clause-left c = λ i left.
    let low = c.loop-place.invariant.left i left in
    omega (arith, low, live-within c.args.rows.now.entries (val_of c.args.value.now) i (left.0, left.1), c.loop-place-test.false, c.len.ensures.len)
