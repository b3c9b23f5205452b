use Rattle.std.proofs.Common.{rules}
use Rattle.wrong_bodies.proofs.program.run.Goals as goal

pub returns : goal.returns
returns g c = search rules
