use Rattle.std.proofs.Common.{arith}
use Rattle.lasp_value.specs.Value.{val_of}
use Rattle.lasp_logset.proofs.LiveLaws.{removed-marks, removed-join}
use Rattle.lasp_logset.proofs.set.LogSet.remove_delta.Goals as goal

pub bury_rest-requires-clause-left : goal.bury_rest-requires-clause-left
bury_rest-requires-clause-left c = λ i left. let low = c.in_ok-bury_chain.ensures.left i left in omega (arith, low, c.len.ensures, c.parts.result.1.now.older.ok.0)

pub returns-clause-rows : goal.returns-clause-rows
returns-clause-rows c =
    removed-marks c.parts.result.0.now.entries c.args.self.now c.bury_rest.new.delta (val_of c.args.value.now) c.parts.ensures.kept c.parts.ensures.apart c.in_ok-bury_rest.ensures.buried c.in_ok-bury_rest.ensures.left

pub returns-clause-joined : goal.returns-clause-joined
returns-clause-joined c =
    removed-join c.args.self.now c.bury_rest.new.delta (val_of c.args.value.now)
    (removed-marks c.parts.result.0.now.entries c.args.self.now c.bury_rest.new.delta (val_of c.args.value.now) c.parts.ensures.kept c.parts.ensures.apart c.in_ok-bury_rest.ensures.buried c.in_ok-bury_rest.ensures.left)
