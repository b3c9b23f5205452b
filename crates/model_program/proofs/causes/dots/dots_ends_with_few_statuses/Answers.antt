use Rattle.model_program.proofs.DotCauses.{dots-ends}
use Rattle.model_program.proofs.causes.dots.dots_ends_with_few_statuses.Goals as goal

pub returns : goal.returns
returns c = dots-ends
