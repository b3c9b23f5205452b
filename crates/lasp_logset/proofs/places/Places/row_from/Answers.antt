use Rattle.std.proofs.Common.{◌-◌, length, arith}
use Rattle.lasp_value.specs.Value.{val_of}
use Rattle.lasp_logset.specs.Chains.{value_hash}
use Rattle.lasp_logset.specs.Places.{IsRowOf}
use Rattle.lasp_logset.proofs.ChainLaws.{behind-wider, not-of}
use Rattle.lasp_logset.proofs.PlaceLaws.{place-before, place-back}
use Rattle.lasp_logset.proofs.places.Places.row_from.Goals as goal

pub loop-behind-smaller : goal.loop-behind-smaller
loop-behind-smaller c =
    let step =
    place-before c.args.rows.now.entries c.args.self.now.newest.entries c.args.self.now.older.items (value_hash (val_of c.args.value.now)) c.loop-behind.behind c.index-behind.result.now c.requires.found
    c.loop-behind.invariant.behind c.loop-behind-test.true c.index-behind.ensures in
    omega (arith, step.behind.within, c.loop-behind-test.true)

pub loop-behind-preserved : goal.loop-behind-preserved
loop-behind-preserved c =
    let step =
    place-before c.args.rows.now.entries c.args.self.now.newest.entries c.args.self.now.older.items (value_hash (val_of c.args.value.now)) c.loop-behind.behind c.index-behind.result.now c.requires.found
    c.loop-behind.invariant.behind c.loop-behind-test.true c.index-behind.ensures in
    record {
      behind =
          behind-wider c.args.rows.now.entries (value_hash (val_of c.args.value.now)) (c.loop-behind.behind - 1) (length c.args.self.now.older.items) c.index-behind.result.now step.behind
          (omega (arith, c.loop-behind.invariant.behind.within, c.loop-behind-test.true));
      passed = λ i there lt.
          let before = c.loop-behind.invariant.passed i there lt in
          place-back c.args.rows.now.entries c.args.self.now.newest.entries c.args.self.now.older.items (val_of c.args.value.now) (c.loop-behind.behind - 1) c.index-behind.result.now c.requires.found step.at step.hash
          (not-of c.is_row_at.result (IsRowOf c.args.rows.now.entries (val_of c.args.value.now) (c.loop-behind.behind - 1)) c.is_row_at.ensures.other c.if-not-is_row_at.true) i there
          (omega (arith, before, c.loop-behind-test.true));
      falls = omega (arith, step.behind.within, c.loop-behind.invariant.falls);
    }
