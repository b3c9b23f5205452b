use Rattle.std.proofs.Common.{arith}
use Rattle.lasp_value.specs.Value.{val_of}
use Rattle.lasp_logset.specs.Chains.{value_hash}
use Rattle.lasp_logset.proofs.PlaceLaws.{row-hash}
use Rattle.lasp_logset.proofs.places.Places.newest_row.Goals as goal

pub row_from-requires-clause-begin : goal.row_from-requires-clause-begin
row_from-requires-clause-begin c = rw (c.begin.ensures, c.hash_of.ensures) (c.requires.begins (value_hash (val_of c.args.value.now)))

pub returns-clause-within : goal.returns-clause-within
returns-clause-within c =
    let low = rw (c.begin.ensures, c.hash_of.ensures) at c.row_from.ensures.falls in
    omega (arith, low, (c.requires.begins (value_hash (val_of c.args.value.now))).within)

pub returns-clause-passed : goal.returns-clause-passed
returns-clause-passed c = λ i there lt.
    c.row_from.ensures.passed i there
    (rw (c.begin.ensures, c.hash_of.ensures) (c.requires.newest_row (value_hash (val_of c.args.value.now)) i lt (row-hash c.args.rows.now.entries (val_of c.args.value.now) i there)))
