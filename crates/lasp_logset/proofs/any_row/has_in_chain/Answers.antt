use Rattle.std.proofs.Common.{◌-◌, length, sym, ◌∙◌, arith}
use Rattle.lasp_value.specs.Value.{val_of}
use Rattle.lasp_logset.proofs.LiveLaws.{left-behind}
use Rattle.lasp_logset.proofs.AnyLaws.{as-row, not-here}
use Rattle.lasp_logset.proofs.any_row.has_in_chain.Goals as goal

pub loop-behind-init : goal.loop-behind-init
loop-behind-init c = record {
  within = c.newest_row-behind.ensures.within;
  found = c.newest_row-behind.ensures.found;
  passed = λ i there lt. c.newest_row-behind.ensures.passed i (as-row c.args.rows.now.entries (val_of c.args.value.now) c.args.dead i there) lt;
}

pub row_before-behind-requires-clause-within : goal.row_before-behind-requires-clause-within
row_before-behind-requires-clause-within c = omega (arith, c.loop-behind.invariant.within, c.loop-behind-test.true)

pub row_before-behind-requires-clause-row : goal.row_before-behind-requires-clause-row
row_before-behind-requires-clause-row c = c.loop-behind.invariant.found (c.loop-behind.behind - 1) (omega (arith, c.loop-behind-test.true))

pub loop-behind-preserved : goal.loop-behind-preserved
loop-behind-preserved c = record {
  within = omega (arith, c.loop-behind.invariant.within, c.row_before-behind.ensures.falls, c.loop-behind-test.true);
  found = c.row_before-behind.ensures.found;
  passed = λ i there lt.
      let low = c.loop-behind.invariant.passed i there lt in
      let other = not-here c.args.rows.now.entries (val_of c.args.value.now) c.args.dead c.is_row_as.result i (c.loop-behind.behind - 1) c.is_row_as.ensures c.if-is_row_as.false there in
      c.row_before-behind.ensures.passed i (as-row c.args.rows.now.entries (val_of c.args.value.now) c.args.dead i there) (omega (arith, low, other));
}

pub returns-then-is_row_as-clause-some : goal.returns-then-is_row_as-clause-some
returns-then-is_row_as-clause-some c = λ _. (c.loop-behind.behind - 1, sym c.is_row_as.ensures ∙ c.if-is_row_as.true)

pub returns-clause-none : goal.returns-clause-none
returns-clause-none c = λ _ i there. left-behind i (length c.args.places.now.older.items) c.loop-behind.behind (λ lt. c.loop-behind.invariant.passed i there lt) (omega (arith, c.loop-behind-test.false))
