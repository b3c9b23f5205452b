use Rattle.lasp_spelling.proofs.Numbers.{whole-lexeme, whole-written}
use Rattle.lasp_spelling.proofs.number.take_whole.Goals as goal

pub returns-clause-lexeme : goal.returns-clause-lexeme
returns-clause-lexeme c = whole-lexeme _ _ c.in_ok-n.n _ c.from.ensures c.in_ok-n.ensures.small c.in_ok-n.ensures.digits c.in_ok-n.ensures.ended

pub returns-clause-written : goal.returns-clause-written
returns-clause-written c = whole-written c.in_ok-n.n _ c.from.ensures c.in_ok-n.ensures.small
