use Rattle.std.proofs.Common.{arith}
use Rattle.lasp_value.specs.Value.{val_of}
use Rattle.lasp_logset.proofs.LiveLaws.{next-place, live-within}
use Rattle.lasp_logset.proofs.live.scan_live.Goals as goal

pub loop-place-preserved : goal.loop-place-preserved
loop-place-preserved c = λ i live low.
    next-place c.args.rows.now.entries (val_of c.args.value.now) c.loop-place.place c.is_live_row.result c.is_live_row.ensures.1 c.if-is_live_row.false i live (c.loop-place.invariant i live low)

pub returns-clause-passed : goal.returns-clause-passed
returns-clause-passed c = λ i live low.
    let within = live-within c.args.rows.now.entries (val_of c.args.value.now) i live in
    let at_least = c.loop-place.invariant i live low in
    absurd (omega (arith, within, at_least, c.loop-place-test.false, c.len-place-end.ensures.len))
