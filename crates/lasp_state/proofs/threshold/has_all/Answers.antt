use Rattle.std.proofs.Common.{rules, ◌≡◌, true, false}
use Rattle.lasp_value.specs.Value.{val_of}
use Rattle.lasp_state.specs.State.{content_of}
use Rattle.lasp_state.specs.Threshold.{is_in}
use Rattle.lasp_state.proofs.ThresholdLaws.{one-fails, one-passes}
use Rattle.lasp_state.proofs.threshold.has_all.Goals as goal

pub returns-then-not-has : goal.returns-then-not-has
returns-then-not-has c =
    let fails : c.has.result ≡ false = search rules in
    one-fails (is_in c.args.dead (content_of c.args.s.now)) c.args.values.now c.loop-i.i (val_of c.at.result.now) c.has.result c.at.ensures c.has.ensures fails c.loop-i.invariant

pub loop-i-preserved : goal.loop-i-preserved
loop-i-preserved c =
    let passes : c.has.result ≡ true = search rules in
    one-passes (is_in c.args.dead (content_of c.args.s.now)) c.args.values.now c.loop-i.i (val_of c.at.result.now) c.has.result c.at.ensures c.has.ensures passes c.loop-i.invariant
