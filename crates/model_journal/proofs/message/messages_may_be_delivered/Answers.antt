use Rattle.model_journal.proofs.MessageLaws.{message-valid, message-lawful}
use Rattle.model_journal.proofs.message.messages_may_be_delivered.Goals as goal

pub returns-clause-valid : goal.returns-clause-valid
returns-clause-valid c = message-valid

pub returns-clause-lawful : goal.returns-clause-lawful
returns-clause-lawful c = message-lawful
