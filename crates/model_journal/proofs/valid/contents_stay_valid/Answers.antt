use Rattle.model_journal.proofs.ValidLaws.{valid-least_of, valid-join, valid-delta, valid-sized}
use Rattle.model_journal.proofs.EquationLaws.{valid-equation}
use Rattle.model_journal.proofs.valid.contents_stay_valid.Goals as goal

pub returns-clause-least : goal.returns-clause-least
returns-clause-least c = valid-least_of

pub returns-clause-join : goal.returns-clause-join
returns-clause-join c = valid-join

pub returns-clause-delta : goal.returns-clause-delta
returns-clause-delta c = valid-delta

pub returns-clause-equation : goal.returns-clause-equation
returns-clause-equation c = valid-equation

pub returns-clause-sized : goal.returns-clause-sized
returns-clause-sized c = valid-sized
