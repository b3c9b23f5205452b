use Rattle.lasp_value.specs.Value.{val_of}
use Rattle.lasp_logset.proofs.LiveLaws.{live-here}
use Rattle.lasp_logset.proofs.live.is_live_row.Goals as goal

pub returns-then-is_of : goal.returns-then-is_of
returns-then-is_of c = live-here c.args.rows.now.entries c.args.place c.in-Some.name.now c.in-Some.dead.now (val_of c.args.value.now) c.in-Some.ensures.entry (c.is_of.ensures.0 c.if-is_of.true)
