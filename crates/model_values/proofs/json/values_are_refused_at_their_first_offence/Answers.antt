use Rattle.model_values.proofs.Offences.{written-refused, read-refused, read-too_big}
use Rattle.model_values.proofs.json.values_are_refused_at_their_first_offence.Goals as goal

pub returns-clause-written : goal.returns-clause-written
returns-clause-written c = written-refused

pub returns-clause-read : goal.returns-clause-read
returns-clause-read c = read-refused

pub returns-clause-size : goal.returns-clause-size
returns-clause-size c = read-too_big
