use Rattle.std.proofs.Common.{sym, ◌∙◌, arith}
use Rattle.lasp_value.specs.Value.{val_of}
use Rattle.lasp_logset.proofs.LiveLaws.{got-within}
use Rattle.lasp_logset.proofs.AnyLaws.{as-row, not-here}
use Rattle.lasp_logset.proofs.any_row.has_from.Goals as goal

pub loop-place-preserved : goal.loop-place-preserved
loop-place-preserved c = λ i there lt.
    let other = not-here c.args.rows.now.entries (val_of c.args.value.now) c.args.dead c.is_row_as.result i c.loop-place.place c.is_row_as.ensures c.if-is_row_as.false there in
    c.loop-place.invariant i there (omega (arith, lt, other))

pub returns-then-is_row_as-clause-some : goal.returns-then-is_row_as-clause-some
returns-then-is_row_as-clause-some c = λ _. (c.loop-place.place, sym c.is_row_as.ensures ∙ c.if-is_row_as.true)

pub returns-clause-none : goal.returns-clause-none
returns-clause-none c = λ _ i there.
    let row = as-row c.args.rows.now.entries (val_of c.args.value.now) c.args.dead i there in
    let within = got-within c.args.rows.now.entries i _ row.2 in
    c.loop-place.invariant i there (omega (arith, within, c.loop-place-test.false, c.len-place-end.ensures.len))
