use Rattle.lasp_replica.proofs.ReadLaws.{kept-clean, kept-applied, kept-version, kept-old}
use Rattle.lasp_replica.proofs.reading.bases_tell_what_is_clean.Goals as goal

pub returns-clause-clean : goal.returns-clause-clean
returns-clause-clean c = kept-clean

pub returns-clause-applied : goal.returns-clause-applied
returns-clause-applied c = kept-applied

pub returns-clause-version : goal.returns-clause-version
returns-clause-version c = kept-version

pub returns-clause-old : goal.returns-clause-old
returns-clause-old c = kept-old
