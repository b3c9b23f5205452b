use Rattle.std.proofs.Common.{◌∙◌, refl, arith}
use Rattle.lasp_reads.proofs.WakeLaws.{room-left, woken-next, woken-all, woken-none}
use Rattle.lasp_reads.proofs.wake.wake_released.Goals as goal

pub loop-i-init : goal.loop-i-init
loop-i-init g c = record { room = refl; woken = woken-none (g.W.Wake.woken c.args.w.now) c.args.released.now; within = omega arith }

pub wake-requires : goal.wake-requires
wake-requires g c = record {
  room = room-left (g.W.Wake.woken c.args.w.now) (g.W.Wake.woken c.loop-i.w) c.args.released.now c.loop-i.i (g.W.Wake.room c.args.w.now) (g.W.Wake.room c.loop-i.w)
      (omega (arith, c.loop-i-test.true, c.len-i-end.ensures)) c.requires.room c.loop-i.invariant.room c.loop-i.invariant.woken;
}

pub loop-i-preserved : goal.loop-i-preserved
loop-i-preserved g c = record {
  room = c.wake.ensures.room ∙ c.loop-i.invariant.room;
  woken = woken-next (g.W.Wake.woken c.args.w.now) (g.W.Wake.woken c.loop-i.w) (g.W.Wake.woken c.wake.new.self) c.args.released.now c.loop-i.i _
      (omega (arith, c.loop-i-test.true, c.len-i-end.ensures)) c.at.ensures c.loop-i.invariant.woken c.wake.ensures.woken;
  within = omega (arith, c.loop-i-test.true, c.len-i-end.ensures);
}

pub returns-clause-woken : goal.returns-clause-woken
returns-clause-woken g c =
    woken-all (g.W.Wake.woken c.args.w.now) (g.W.Wake.woken c.loop-i.w) c.args.released.now c.loop-i.i (omega (arith, c.loop-i-test.false, c.len-i-end.ensures)) c.loop-i.invariant.woken
