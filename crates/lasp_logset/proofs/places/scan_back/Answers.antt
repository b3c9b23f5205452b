use Rattle.std.proofs.Common.{◌-◌, arith}
use Rattle.lasp_value.specs.Value.{val_of}
use Rattle.lasp_logset.specs.Places.{IsRowOf}
use Rattle.lasp_logset.proofs.ChainLaws.{not-of}
use Rattle.lasp_logset.proofs.NearLaws.{past-row}
use Rattle.lasp_logset.proofs.places.scan_back.Goals as goal

pub loop-behind-preserved : goal.loop-behind-preserved
loop-behind-preserved c = record {
  within = omega (arith, c.loop-behind-test.true);
  passed = λ i there low lt.
      past-row c.args.rows.now.entries (val_of c.args.value.now) i c.loop-behind.behind
      (not-of c.is_row_at.result (IsRowOf c.args.rows.now.entries (val_of c.args.value.now) (c.loop-behind.behind - 1)) c.is_row_at.ensures.other c.if-not-is_row_at.true) there (c.loop-behind.invariant.passed i there low lt);
  falls = omega (arith, c.loop-behind.invariant.falls);
}
