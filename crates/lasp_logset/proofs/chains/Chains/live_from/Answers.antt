use Rattle.std.proofs.Common.{◌-◌, length, arith}
use Rattle.lasp_value.specs.Value.{val_of}
use Rattle.lasp_logset.specs.Live.{IsLiveRow}
use Rattle.lasp_logset.specs.Chains.{value_hash}
use Rattle.lasp_logset.proofs.ChainLaws.{step-before, step-back, behind-wider, row-live, not-of}
use Rattle.lasp_logset.proofs.chains.Chains.live_from.Goals as goal

pub loop-behind-smaller : goal.loop-behind-smaller
loop-behind-smaller c =
    let step =
    step-before c.args.rows.now.entries c.args.self.now.newest.entries c.args.self.now.older.items (value_hash (val_of c.args.value.now)) c.loop-behind.behind c.index-behind.result.now c.requires.chained
    c.loop-behind.invariant.behind c.loop-behind-test.true c.index-behind.ensures in
    omega (arith, step.behind.within, c.loop-behind-test.true)

pub loop-behind-preserved : goal.loop-behind-preserved
loop-behind-preserved c =
    let step =
    step-before c.args.rows.now.entries c.args.self.now.newest.entries c.args.self.now.older.items (value_hash (val_of c.args.value.now)) c.loop-behind.behind c.index-behind.result.now c.requires.chained
    c.loop-behind.invariant.behind c.loop-behind-test.true c.index-behind.ensures in
    record {
      behind =
          behind-wider c.args.rows.now.entries (value_hash (val_of c.args.value.now)) (c.loop-behind.behind - 1) (length c.args.self.now.older.items) c.index-behind.result.now step.behind
          (omega (arith, c.loop-behind.invariant.behind.within, c.loop-behind-test.true));
      passed = λ i there lt.
          let before = c.loop-behind.invariant.passed i there lt in
          step-back c.args.rows.now.entries c.args.self.now.newest.entries c.args.self.now.older.items (value_hash (val_of c.args.value.now)) (IsLiveRow c.args.rows.now.entries (val_of c.args.value.now)) (c.loop-behind.behind - 1)
          c.index-behind.result.now c.requires.chained (row-live c.args.rows.now.entries (val_of c.args.value.now)) step.at step.hash
          (not-of c.is_live_row.result (IsLiveRow c.args.rows.now.entries (val_of c.args.value.now) (c.loop-behind.behind - 1)) c.is_live_row.ensures.1 c.if-not-is_live_row.true) i there
          (omega (arith, before, c.loop-behind-test.true));
      falls = omega (arith, step.behind.within, c.loop-behind.invariant.falls);
    }
