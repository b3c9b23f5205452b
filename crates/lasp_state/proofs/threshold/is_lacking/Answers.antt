use Rattle.lasp_value.specs.Value.{val_of}
use Rattle.lasp_state.specs.State.{content_of}
use Rattle.lasp_state.specs.Threshold.{is_in}
use Rattle.lasp_state.proofs.ThresholdLaws.{one-lacks}
use Rattle.lasp_state.proofs.threshold.is_lacking.Goals as goal

pub returns-then-place-len : goal.returns-then-place-len
returns-then-place-len c = one-lacks (is_in c.args.dead (content_of c.args.s.now)) c.args.values.now c.args.place (val_of c.at.result.now) c.has.result c.at.ensures c.has.ensures
