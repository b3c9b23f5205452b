use Rattle.model_deltas.proofs.CodecLaws.{decoded_known, known_decoded}
use Rattle.model_deltas.proofs.bytes.deltas_are_read_as_they_are_spelled.Goals as goal

pub returns-clause-read : goal.returns-clause-read
returns-clause-read c = decoded_known

pub returns-clause-again : goal.returns-clause-again
returns-clause-again c = known_decoded
