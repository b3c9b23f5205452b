use Rattle.lasp_state.specs.State.{content_of}
use Rattle.lasp_state.proofs.ThresholdLaws.{at-least-test}
use Rattle.lasp_state.proofs.threshold.is_at_least.Goals as goal

pub returns : goal.returns
returns c = at-least-test c.le.result (content_of c.args.bound.now) (content_of c.args.s.now) c.le.ensures
