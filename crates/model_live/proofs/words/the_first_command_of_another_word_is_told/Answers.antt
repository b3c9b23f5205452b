use Rattle.model_live.proofs.WordLaws.{first-told, first-none}
use Rattle.model_live.proofs.words.the_first_command_of_another_word_is_told.Goals as goal

pub returns-clause-other : goal.returns-clause-other
returns-clause-other c = first-told

pub returns-clause-none : goal.returns-clause-none
returns-clause-none c = first-none
