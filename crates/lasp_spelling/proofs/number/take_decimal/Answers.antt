use Rattle.std.proofs.Common.{◌∙◌, sym, ap, ◌++◌, decimal}
use Rattle.lasp_spelling.proofs.Numbers.{decimal-front}
use Rattle.lasp_spelling.proofs.number.take_decimal.Goals as goal

pub returns-then-ends_word-clause-digits : goal.returns-then-ends_word-clause-digits
returns-then-ends_word-clause-digits c =
    let front = c.split_at.ensures.front in
    decimal-front c.args.rest.now c.in_ok-n.len c.in_ok-n.n c.in_ok-n.ensures.digits c.in_ok-n.ensures.value c.in_ok-n.ensures.small
    (rw (← front) (c.is_shortest.ensures.some c.if-is_shortest.true)) (rw (← front) (c.is_shortest.ensures.lead c.if-is_shortest.true))
    ∙ ap (λ l. decimal c.in_ok-n.n ++ l) (sym c.split_at.ensures.back)
