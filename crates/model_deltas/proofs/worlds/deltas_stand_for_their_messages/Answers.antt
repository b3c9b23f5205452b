use Rattle.model_deltas.proofs.WorldLaws.{delta-known}
use Rattle.model_deltas.proofs.TellLaws.{delta-world}
use Rattle.model_deltas.proofs.worlds.deltas_stand_for_their_messages.Goals as goal

pub returns-clause-world : goal.returns-clause-world
returns-clause-world c = delta-world

pub returns-clause-known : goal.returns-clause-known
returns-clause-known c = delta-known
