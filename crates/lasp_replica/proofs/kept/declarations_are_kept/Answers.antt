use Rattle.lasp_replica.proofs.DeclareLaws.{kept-fresh, kept-extended}
use Rattle.lasp_replica.proofs.kept.declarations_are_kept.Goals as goal

pub returns-clause-fresh : goal.returns-clause-fresh
returns-clause-fresh c = kept-fresh

pub returns-clause-extended : goal.returns-clause-extended
returns-clause-extended c = kept-extended
