use Rattle.lasp_logset.proofs.KeptLaws.{kept-state}
use Rattle.lasp_logset.proofs.set.LogSet.iter.Goals as goal

pub returns-clause-rows : goal.returns-clause-rows
returns-clause-rows c = rw (c.of.ensures, c.iter.ensures.rest) (kept-state c.parts.result.0.now.entries c.args.self.now c.parts.ensures.kept)
