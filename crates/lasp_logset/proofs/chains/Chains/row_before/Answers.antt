use Rattle.std.proofs.Common.{length, arith}
use Rattle.lasp_value.specs.Value.{val_of}
use Rattle.lasp_logset.specs.Chains.{value_hash}
use Rattle.lasp_logset.proofs.ChainLaws.{step-from, behind-wider, row-live}
use Rattle.lasp_logset.proofs.chains.Chains.row_before.Goals as goal

pub live_from-requires-clause-begin : goal.live_from-requires-clause-begin
live_from-requires-clause-begin c =
    let step = step-from c.args.rows.now.entries c.args.self.now.newest.entries c.args.self.now.older.items (value_hash (val_of c.args.value.now)) c.args.row c.index.result.now c.requires.chained c.requires.row c.index.ensures in
    behind-wider c.args.rows.now.entries (value_hash (val_of c.args.value.now)) c.args.row (length c.args.self.now.older.items) c.index.result.now step.behind (omega (arith, c.requires.row.within))

pub returns-clause-passed : goal.returns-clause-passed
returns-clause-passed c = λ i there lt.
    let step = step-from c.args.rows.now.entries c.args.self.now.newest.entries c.args.self.now.older.items (value_hash (val_of c.args.value.now)) c.args.row c.index.result.now c.requires.chained c.requires.row c.index.ensures in
    c.live_from.ensures.passed i there
    (c.requires.chained.older_live c.args.row c.index.result.now (value_hash (val_of c.args.value.now)) i step.at step.hash lt (row-live c.args.rows.now.entries (val_of c.args.value.now) i there))

pub returns-clause-falls : goal.returns-clause-falls
returns-clause-falls c =
    let step = step-from c.args.rows.now.entries c.args.self.now.newest.entries c.args.self.now.older.items (value_hash (val_of c.args.value.now)) c.args.row c.index.result.now c.requires.chained c.requires.row c.index.ensures in
    omega (arith, step.behind.within, c.live_from.ensures.falls)
