use Rattle.std.proofs.Common.{rules}
use Rattle.wrong_bodies.proofs.sets.count_more.Goals as goal

pub returns : goal.returns
returns c = search rules
