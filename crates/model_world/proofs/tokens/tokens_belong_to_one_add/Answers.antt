use Rattle.model_world.proofs.ReportLaws.{place-marked}
use Rattle.model_world.proofs.tokens.tokens_belong_to_one_add.Goals as goal

pub returns-clause-marked : goal.returns-clause-marked
returns-clause-marked c = place-marked
