use Rattle.model_deltas.proofs.WayLaws.{sent-told}
use Rattle.model_deltas.proofs.TellLaws.{world-ordered, worlds-alike, nothing-before, told-before}
use Rattle.model_deltas.proofs.worlds.messages_of_a_world_go_together.Goals as goal

pub returns-clause-sent : goal.returns-clause-sent
returns-clause-sent c = sent-told

pub returns-clause-ordered : goal.returns-clause-ordered
returns-clause-ordered c = world-ordered

pub returns-clause-alike : goal.returns-clause-alike
returns-clause-alike c = worlds-alike

pub returns-clause-nothing : goal.returns-clause-nothing
returns-clause-nothing c = nothing-before

pub returns-clause-later : goal.returns-clause-later
returns-clause-later c = told-before
