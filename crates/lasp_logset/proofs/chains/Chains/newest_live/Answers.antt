use Rattle.std.proofs.Common.{◌-◌, length, arith}
use Rattle.lasp_logset.specs.Chains.{IsLiveAt}
use Rattle.lasp_logset.proofs.ChainLaws.{step-before, step-back, behind-wider}
use Rattle.lasp_logset.proofs.chains.Chains.newest_live.Goals as goal

pub loop-behind-init : goal.loop-behind-init
loop-behind-init c = rw c.begin-behind.ensures (record { behind = c.requires.begins c.args.hash; live = λ i lt there. c.requires.newest_live c.args.hash i lt there })

pub loop-behind-smaller : goal.loop-behind-smaller
loop-behind-smaller c =
    let step =
    step-before c.args.rows.now.entries c.args.self.now.newest.entries c.args.self.now.older.items c.args.hash c.loop-behind.behind c.index-behind.result.now c.requires c.loop-behind.invariant.behind c.loop-behind-test.true
    c.index-behind.ensures in
    omega (arith, step.behind.within, c.loop-behind-test.true)

pub loop-behind-preserved : goal.loop-behind-preserved
loop-behind-preserved c =
    let step =
    step-before c.args.rows.now.entries c.args.self.now.newest.entries c.args.self.now.older.items c.args.hash c.loop-behind.behind c.index-behind.result.now c.requires c.loop-behind.invariant.behind c.loop-behind-test.true
    c.index-behind.ensures in
    record {
      behind =
          behind-wider c.args.rows.now.entries c.args.hash (c.loop-behind.behind - 1) (length c.args.self.now.older.items) c.index-behind.result.now step.behind
          (omega (arith, c.loop-behind.invariant.behind.within, c.loop-behind-test.true));
      live = λ i lt there.
          let before = c.loop-behind.invariant.live i lt there in
          step-back c.args.rows.now.entries c.args.self.now.newest.entries c.args.self.now.older.items c.args.hash (IsLiveAt c.args.rows.now.entries c.args.hash) (c.loop-behind.behind - 1) c.index-behind.result.now c.requires
          (λ j p. p) step.at step.hash (c.is_dead.ensures c.if-is_dead.true c.args.hash) i there (omega (arith, before, c.loop-behind-test.true));
    }
