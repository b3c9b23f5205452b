use Rattle.std.proofs.Common.{length, arith}
use Rattle.lasp_value.specs.Value.{val_of}
use Rattle.lasp_logset.specs.Chains.{value_hash}
use Rattle.lasp_logset.proofs.ChainLaws.{behind-wider}
use Rattle.lasp_logset.proofs.PlaceLaws.{row-hash, place-step}
use Rattle.lasp_logset.proofs.places.Places.row_before.Goals as goal

pub row_from-requires-clause-begin : goal.row_from-requires-clause-begin
row_from-requires-clause-begin c =
    let within = c.requires.within in
    let step = place-step c.args.rows.now.entries c.args.self.now.newest.entries c.args.self.now.older.items (value_hash (val_of c.args.value.now)) c.args.row c.index.result.now c.requires.found within
    (row-hash c.args.rows.now.entries (val_of c.args.value.now) c.args.row c.requires.row) c.index.ensures in
    behind-wider c.args.rows.now.entries (value_hash (val_of c.args.value.now)) c.args.row (length c.args.self.now.older.items) c.index.result.now step.behind (omega (arith, within))

pub returns-clause-passed : goal.returns-clause-passed
returns-clause-passed c = λ i there lt.
    let within = c.requires.within in
    let step = place-step c.args.rows.now.entries c.args.self.now.newest.entries c.args.self.now.older.items (value_hash (val_of c.args.value.now)) c.args.row c.index.result.now c.requires.found within
    (row-hash c.args.rows.now.entries (val_of c.args.value.now) c.args.row c.requires.row) c.index.ensures in
    c.row_from.ensures.passed i there
    (c.requires.found.older_row c.args.row c.index.result.now (value_hash (val_of c.args.value.now)) i step.at step.hash lt (row-hash c.args.rows.now.entries (val_of c.args.value.now) i there))

pub returns-clause-falls : goal.returns-clause-falls
returns-clause-falls c =
    let within = c.requires.within in
    let step = place-step c.args.rows.now.entries c.args.self.now.newest.entries c.args.self.now.older.items (value_hash (val_of c.args.value.now)) c.args.row c.index.result.now c.requires.found within
    (row-hash c.args.rows.now.entries (val_of c.args.value.now) c.args.row c.requires.row) c.index.ensures in
    omega (arith, step.behind.within, c.row_from.ensures.falls)
