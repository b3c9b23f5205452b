use Rattle.model_journal.proofs.WordLaws.{clean-words}
use Rattle.model_journal.proofs.clean.clean_variables_have_read_their_inputs.Goals as goal

pub returns : goal.returns
returns c = record { clean = clean-words }
