use Rattle.lasp_logset.proofs.GrownLaws.{begun-none}
use Rattle.lasp_logset.proofs.grown.Grown.of.Goals as goal

pub invariant_of-result : goal.invariant_of-result
invariant_of-result c = begun-none c.args.past
