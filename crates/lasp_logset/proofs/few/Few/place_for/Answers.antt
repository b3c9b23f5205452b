use Rattle.std.proofs.Common.{◌+◌, ◌-◌, ◌/◌, arith}
use Rattle.lasp_value.specs.Value.{val_of}
use Rattle.lasp_logset.proofs.FewLaws.{held-middle}
use Rattle.lasp_logset.proofs.few.Few.place_for.Goals as goal

pub returns-in-Equal-clause-none : goal.returns-in-Equal-clause-none
returns-in-Equal-clause-none c =
    held-middle c.args.rows.now.entries c.args.self.now.places.items (c.loop-low.low + (c.loop-low.high - c.loop-low.low) / 2) c.index.result.now (val_of c.args.value.now)
    (omega (arith, c.loop-low-test.true, c.loop-low.invariant.within)) c.index.ensures (c.order_at.ensures c.in-Equal.is)
