use Rattle.std.proofs.Common.{arith}
use Rattle.lasp_logset.proofs.places.Places.any_before.Goals as goal

pub row_before-requires-clause-within : goal.row_before-requires-clause-within
row_before-requires-clause-within c = omega (arith, c.if-row-len.true, c.len.ensures, c.args.self.now.older.ok.0)

pub newest_before-requires-clause-since : goal.newest_before-requires-clause-since
newest_before-requires-clause-since c = omega (arith, c.if-row-len.false, c.len.ensures, c.args.self.now.older.ok.0)
