use Rattle.lasp_replica.proofs.OneLaws.{kept-updated-still, kept-updated-grown}
use Rattle.lasp_replica.proofs.kept.updates_are_kept.Goals as goal

pub returns-clause-still : goal.returns-clause-still
returns-clause-still c = kept-updated-still

pub returns-clause-grown : goal.returns-clause-grown
returns-clause-grown c = kept-updated-grown
