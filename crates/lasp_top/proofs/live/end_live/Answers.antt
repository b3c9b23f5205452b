use Rattle.std.proofs.Common.{rules}
use Rattle.model_program.specs.Live.{LiveEnds}
use Rattle.lasp_top.proofs.live.end_live.Goals as goal

pub returns-in-Some-clause-ends : goal.returns-in-Some-clause-ends
unfolding LiveEnds
returns-in-Some-clause-ends g c = search rules
