use Rattle.model_live.proofs.KnowLaws.{heard-next, heard-apart, knows-results, knows-letter}
use Rattle.model_live.proofs.hearings.nodes_hear_letters.Goals as goal

pub returns-clause-results : goal.returns-clause-results
returns-clause-results c = knows-results

pub returns-clause-letters : goal.returns-clause-letters
returns-clause-letters c = knows-letter

pub returns-clause-heard : goal.returns-clause-heard
returns-clause-heard c = heard-next

pub returns-clause-unheard : goal.returns-clause-unheard
returns-clause-unheard c = heard-apart
