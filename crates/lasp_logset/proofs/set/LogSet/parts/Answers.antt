use Rattle.lasp_logset.proofs.KeptLaws.{distinct-apart}
use Rattle.lasp_logset.proofs.set.LogSet.parts.Goals as goal

pub returns-clause-apart : goal.returns-clause-apart
returns-clause-apart c = distinct-apart c.self.inside.rows.entries c.len-count.ensures.unique
