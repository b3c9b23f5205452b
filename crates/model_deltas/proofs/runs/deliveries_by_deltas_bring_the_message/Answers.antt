use Rattle.model_deltas.proofs.SourceLaws.{taken-there}
use Rattle.model_deltas.proofs.DeliveryLaws.{applied-place, carried-place}
use Rattle.model_deltas.proofs.runs.deliveries_by_deltas_bring_the_message.Goals as goal

pub returns-clause-applied : goal.returns-clause-applied
returns-clause-applied c = λ g nodes commands f s place same travels p i member within. applied-place g nodes commands f s place same travels p i member within

pub returns-clause-carried : goal.returns-clause-carried
returns-clause-carried c = λ g nodes commands f s place same travels p i member within none. carried-place g nodes commands f s place same travels p i member within none

pub returns-clause-taken : goal.returns-clause-taken
returns-clause-taken c = λ g nodes commands f place p m member lawful. taken-there g nodes commands f place p m member lawful
