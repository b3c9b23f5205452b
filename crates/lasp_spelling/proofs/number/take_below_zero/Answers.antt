use Rattle.lasp_spelling.proofs.Numbers.{below-lexeme, below-written}
use Rattle.lasp_spelling.proofs.number.take_below_zero.Goals as goal

pub returns-clause-lexeme : goal.returns-clause-lexeme
returns-clause-lexeme c =
    below-lexeme _ c.args.digits.now _ c.in_ok-n.n c.below_zero.result _ c.if-n-eq0.false c.in_ok-n.ensures.small c.below_zero.ensures c.from.ensures c.requires c.in_ok-n.ensures.digits c.in_ok-n.ensures.ended

pub returns-clause-written : goal.returns-clause-written
returns-clause-written c = below-written c.in_ok-n.n c.below_zero.result _ c.if-n-eq0.false c.in_ok-n.ensures.small c.below_zero.ensures c.from.ensures
