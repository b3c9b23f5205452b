use Rattle.model_journal.proofs.StandLaws.{journal-valid}
use Rattle.model_journal.proofs.LimitLaws.{step-valid, step-legal}
use Rattle.model_journal.proofs.legal.lawful_entries_stay_valid_within_the_limits.Goals as goal

pub returns-clause-valid : goal.returns-clause-valid
returns-clause-valid c = journal-valid

pub returns-clause-step : goal.returns-clause-step
returns-clause-step c = step-valid

pub returns-clause-push : goal.returns-clause-push
returns-clause-push c = step-legal
