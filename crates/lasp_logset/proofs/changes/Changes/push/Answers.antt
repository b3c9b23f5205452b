use Rattle.std.proofs.Common.{arith}
use Rattle.lasp_logset.proofs.WeightLaws.{push_bounded}
use Rattle.lasp_logset.proofs.changes.Changes.push.Goals as goal

pub invariant_of-self-2 : goal.invariant_of-self-2
invariant_of-self-2 c =
    push_bounded c.self.inside.log.items c.args.entry c.push.new.self.items c.self.inside.weight c.entry_weight-weight.result c.saturating_add-self-inside.result c.in_ok-push.ensures.ok c.self.invariant c.entry_weight-weight.ensures (omega arith)
