use Rattle.std.proofs.Common.{◌∙◌}
use Rattle.lasp_logset.proofs.WholeLaws.{taken-all}
use Rattle.lasp_logset.proofs.orset.OrSet.take_all.Goals as goal

pub returns-clause-ok : goal.returns-clause-ok
returns-clause-ok c = c.in_ok-self.ensures ∙ taken-all c.args.self.now c.args.other.now c.requires c.ascends.ensures
