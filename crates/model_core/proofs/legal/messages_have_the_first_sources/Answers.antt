use Rattle.model_core.proofs.MessageLaws.{sent-first}
use Rattle.model_core.proofs.legal.messages_have_the_first_sources.Goals as goal

pub returns-clause-first : goal.returns-clause-first
returns-clause-first c = sent-first
