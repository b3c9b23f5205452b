use Rattle.model_live.proofs.WithinLaws.{start-within, update-within, sent-letter}
use Rattle.model_live.proofs.letters.nodes_stay_within_what_all_do.Goals as goal

pub returns-clause-start : goal.returns-clause-start
returns-clause-start c = start-within

pub returns-clause-update : goal.returns-clause-update
returns-clause-update c = λ g script p x o done left r lawful member is within number counted. update-within g script p x o done left r lawful member is within number counted

pub returns-clause-sent : goal.returns-clause-sent
returns-clause-sent c = λ g script r size wide within counted. sent-letter g script r size wide within counted
