use Rattle.model_wire.proofs.PrefixLaws.{rest_before, before_refused}
use Rattle.model_wire.proofs.prefixes.rest_stands_behind_a_message.Goals as goal

pub returns-clause-before : goal.returns-clause-before
returns-clause-before c = rest_before

pub returns-clause-refused : goal.returns-clause-refused
returns-clause-refused c = before_refused
