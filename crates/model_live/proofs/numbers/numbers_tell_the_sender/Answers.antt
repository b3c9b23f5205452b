use Rattle.model_live.proofs.NumberLaws.{heard-append, numbered-next, own-number, one-sender}
use Rattle.model_live.proofs.numbers.numbers_tell_the_sender.Goals as goal

pub returns-clause-heard : goal.returns-clause-heard
returns-clause-heard c = heard-append

pub returns-clause-next : goal.returns-clause-next
returns-clause-next c = numbered-next

pub returns-clause-own : goal.returns-clause-own
returns-clause-own c = own-number

pub returns-clause-one : goal.returns-clause-one
returns-clause-one c = one-sender
