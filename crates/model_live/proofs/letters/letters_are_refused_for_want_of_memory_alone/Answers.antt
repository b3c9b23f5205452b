use Rattle.model_live.proofs.BoundLaws.{gained-below, letter-small, settled-small}
use Rattle.model_live.proofs.FullLaws.{full-ordered}
use Rattle.model_live.proofs.letters.letters_are_refused_for_want_of_memory_alone.Goals as goal

pub returns-clause-ordered : goal.returns-clause-ordered
returns-clause-ordered c = full-ordered

pub returns-clause-delivery : goal.returns-clause-delivery
returns-clause-delivery c = λ g script contents m none size ordered within letter. letter-small g script none (full-ordered g script) contents size ordered within m letter

pub returns-clause-within : goal.returns-clause-within
returns-clause-within c = λ g script contents m size within letter. gained-below g script m letter contents size within

pub returns-clause-settle : goal.returns-clause-settle
returns-clause-settle c = λ g script contents ok none ordered within. settled-small g script ok none (full-ordered g script) contents ordered within
