use Rattle.lasp_replica.proofs.OneLaws.{kept-bound-late, kept-bound-still, kept-bound-grown}
use Rattle.lasp_replica.proofs.kept.binds_are_kept.Goals as goal

pub returns-clause-late : goal.returns-clause-late
returns-clause-late c = kept-bound-late

pub returns-clause-still : goal.returns-clause-still
returns-clause-still c = kept-bound-still

pub returns-clause-grown : goal.returns-clause-grown
returns-clause-grown c = kept-bound-grown
