use Rattle.std.proofs.Common.{◌≡◌, ℕ, suc, ◌-◌, length, subst, arith}
use Rattle.lasp_value.specs.Value.{val_of}
use Rattle.lasp_logset.specs.Chains.{value_hash, IsBehind}
use Rattle.lasp_logset.proofs.LiveLaws.{buried-more, left-before, left-behind}
use Rattle.lasp_logset.proofs.buried.bury_chain.Goals as goal

pub loop-behind-init : goal.loop-behind-init
loop-behind-init c = record {
  buried = c.requires.buried;
  behind = c.newest_row-behind.ensures.behind;
  found = c.newest_row-behind.ensures.found;
  left = λ i left lt. c.newest_row-behind.ensures.passed i (left.0, left.1) lt;
}

pub bury-requires : goal.bury-requires
bury-requires c = c.loop-behind.invariant.found (c.loop-behind.behind - 1) (omega (arith, c.loop-behind-test.true))

pub row_before-behind-requires-clause-row : goal.row_before-behind-requires-clause-row
row_before-behind-requires-clause-row c =
    let whole : c.loop-behind.behind ≡ suc (c.loop-behind.behind - 1) = omega (arith, c.loop-behind-test.true) in
    subst (λ (n : ℕ). IsBehind c.args.rows.now.entries (value_hash (val_of c.args.value.now)) (length c.args.chains.now.older.items) n) whole c.loop-behind.invariant.behind

pub loop-behind-preserved : goal.loop-behind-preserved
loop-behind-preserved c = record {
  buried = buried-more c.args.rows.now.entries c.loop-behind.delta c.bury.new.delta (val_of c.args.value.now) (c.loop-behind.behind - 1) c.in_ok-bury.ensures c.loop-behind.invariant.buried;
  behind = c.row_before-behind.ensures.behind;
  found = c.row_before-behind.ensures.found;
  left = λ i left lt.
      let before = left-before c.args.rows.now.entries c.loop-behind.delta c.bury.new.delta (val_of c.args.value.now) (c.loop-behind.behind - 1) c.in_ok-bury.ensures i left in
      let low = c.loop-behind.invariant.left i before.0 lt in
      c.row_before-behind.ensures.passed i (left.0, left.1) (omega (arith, low, before.1));
}

pub returns-clause-left : goal.returns-clause-left
returns-clause-left c = λ i left.
    left-behind i (length c.args.chains.now.older.items) c.loop-behind.behind (λ lt. c.loop-behind.invariant.left i left lt) (omega (arith, c.loop-behind-test.false))
