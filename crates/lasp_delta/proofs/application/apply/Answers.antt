use Rattle.lasp_delta.proofs.WorldLaws.{answers-world}
use Rattle.lasp_delta.proofs.application.apply.Goals as goal

pub returns-clause-world : goal.returns-clause-world
returns-clause-world c = answers-world c.args.base.now c.args.delta.now c.apply_to.result c.apply_to.ensures
