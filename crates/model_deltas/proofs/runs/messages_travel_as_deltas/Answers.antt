use Rattle.model_deltas.proofs.DeliveryLaws.{travels-begin, travels-sent}
use Rattle.model_deltas.proofs.TravelLaws.{travels-else}
use Rattle.model_deltas.proofs.runs.messages_travel_as_deltas.Goals as goal

pub returns-clause-start : goal.returns-clause-start
returns-clause-start c = travels-begin

pub returns-clause-post : goal.returns-clause-post
returns-clause-post c = travels-sent

pub returns-clause-others : goal.returns-clause-others
returns-clause-others c = travels-else
