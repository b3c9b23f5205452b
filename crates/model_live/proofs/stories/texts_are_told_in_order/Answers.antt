use Rattle.model_live.proofs.EndLaws.{notes-first, notes-one, notes-none}
use Rattle.model_live.proofs.stories.texts_are_told_in_order.Goals as goal

pub returns-clause-first : goal.returns-clause-first
returns-clause-first c = notes-first

pub returns-clause-one : goal.returns-clause-one
returns-clause-one c = notes-one

pub returns-clause-none : goal.returns-clause-none
returns-clause-none c = notes-none
