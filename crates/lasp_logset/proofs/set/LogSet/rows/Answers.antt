use Rattle.std.proofs.Common.{◌∙◌}
use Rattle.lasp_logset.proofs.KeptLaws.{kept-length}
use Rattle.lasp_logset.proofs.set.LogSet.rows.Goals as goal

pub returns-clause-exact : goal.returns-clause-exact
returns-clause-exact c = rw (← c.self.view_is) (c.len.ensures.len ∙ kept-length c.self.inside.rows.entries c.self.inside.log.items c.self.invariant.kept c.len.ensures.unique)
