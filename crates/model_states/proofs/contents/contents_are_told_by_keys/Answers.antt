use Rattle.model_states.proofs.ContentLaws.{order-parts}
use Rattle.model_states.proofs.contents.contents_are_told_by_keys.Goals as goal

pub returns-clause-parts : goal.returns-clause-parts
returns-clause-parts c = order-parts
