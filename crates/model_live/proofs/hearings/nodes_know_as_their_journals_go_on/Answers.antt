use Rattle.model_live.proofs.HearLaws.{results-peer, graph-opens, heard-kept, others-kept, vals-within, delivered-peer, updated-peer}
use Rattle.model_live.proofs.StoryLaws.{results-quiet}
use Rattle.model_live.proofs.hearings.nodes_know_as_their_journals_go_on.Goals as goal

pub returns-clause-results : goal.returns-clause-results
returns-clause-results c = results-peer

pub returns-clause-declares : goal.returns-clause-declares
returns-clause-declares c = λ more results. (results-quiet more results).1

pub returns-clause-opens : goal.returns-clause-opens
returns-clause-opens c = graph-opens

pub returns-clause-delivers : goal.returns-clause-delivers
returns-clause-delivers c = delivered-peer

pub returns-clause-updates : goal.returns-clause-updates
returns-clause-updates c = updated-peer

pub returns-clause-within : goal.returns-clause-within
returns-clause-within c = vals-within

pub returns-clause-heard : goal.returns-clause-heard
returns-clause-heard c = heard-kept

pub returns-clause-others : goal.returns-clause-others
returns-clause-others c = others-kept
