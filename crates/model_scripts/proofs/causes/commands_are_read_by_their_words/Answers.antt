use Rattle.model_scripts.proofs.CommandLaws.{next-refused, next-accepted}
use Rattle.model_scripts.proofs.causes.commands_are_read_by_their_words.Goals as goal

pub returns-clause-refused : goal.returns-clause-refused
returns-clause-refused c = next-refused

pub returns-clause-accepted : goal.returns-clause-accepted
returns-clause-accepted c = next-accepted
