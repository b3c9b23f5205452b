use Rattle.model_program.proofs.FormLaws.{form-listed, form-wrong}
use Rattle.model_program.proofs.causes.words.words_have_the_listed_forms.Goals as goal

pub returns-clause-listed : goal.returns-clause-listed
returns-clause-listed c = form-listed

pub returns-clause-wrong : goal.returns-clause-wrong
returns-clause-wrong c = form-wrong
