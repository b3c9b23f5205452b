use Rattle.std.proofs.Common.{Bool, not, sym, ap}
use Rattle.lasp_value.specs.Value.{val_of}
use Rattle.lasp_logset.proofs.LiveLaws.{live-here}
use Rattle.lasp_logset.proofs.shown.live_value.Goals as goal

pub returns-in-Some : goal.returns-in-Some
returns-in-Some c =
    (live-here c.args.rows.now.entries c.args.place c.in-Some.name.now c.in-Some.dead.now (val_of c.value.result.now) c.in-Some.ensures.entry (sym c.value.ensures)).0 (ap (λ (b : Bool). not b) c.if-not-dead.true)
