use Rattle.std.proofs.Common.{◌-◌, ◌++◌, take, arith}
use Rattle.std.proofs.lemmas.List.{take_rest}
use Rattle.lasp_log.specs.Log.{joined}
use Rattle.lasp_log.proofs.LogLaws.{some-before, length-back, joined-back, drop-among}
use Rattle.lasp_log.proofs.log.Log.since.Goals as goal

pub overflow_sub-begin-in-loop-begin : goal.overflow_sub-begin-in-loop-begin
overflow_sub-begin-in-loop-begin g c =
    let some = some-before c.self.inside.sealed.items c.loop-begin.before c.args.place c.loop-begin.begin c.loop-begin.invariant.begin c.loop-begin-test.true in
    let sum =
    length-back c.self.inside.sealed.items c.loop-begin.before c.loop-begin.begin c.items-items.result.now some c.loop-begin.invariant.before
    (rw c.items-items.ensures c.index.ensures) c.loop-begin.invariant.begin in
    omega (arith, sum)

pub loop-begin-preserved : goal.loop-begin-preserved
loop-begin-preserved g c =
    let some = some-before c.self.inside.sealed.items c.loop-begin.before c.args.place c.loop-begin.begin c.loop-begin.invariant.begin c.loop-begin-test.true in
    let sum =
    length-back c.self.inside.sealed.items c.loop-begin.before c.loop-begin.begin c.items-items.result.now some c.loop-begin.invariant.before
    (rw c.items-items.ensures c.index.ensures) c.loop-begin.invariant.begin in
    record {
      whole =
          rw (c.deref.ensures.value, c.as_slice-newest.ensures.value, take_rest c.self.inside.sealed.items c.loop-begin.before, ← c.self.view_is)
          (joined-back c.self.inside.sealed.items c.self.inside.newest.items c.loop-begin.before c.items-items.result.now some c.loop-begin.invariant.before (rw c.items-items.ensures c.index.ensures));
      begin = omega (arith, sum);
      before = omega (arith, c.loop-begin.invariant.before);
      place = omega (arith, sum, c.loop-begin-test.true);
    }

pub returns : goal.returns
returns g c =
    rw (c.of.ensures, take_rest c.loop-begin.items.now (c.args.place - c.loop-begin.begin))
    (drop-among (joined (take c.loop-begin.before c.self.inside.sealed.items)) c.loop-begin.items.now (joined c.loop-begin.chunks.now ++ c.loop-begin.newest.now) c.args.self.now.items c.args.place c.loop-begin.begin
    c.loop-begin.invariant.whole c.loop-begin.invariant.begin c.loop-begin-test.false c.loop-begin.invariant.place)
