use Rattle.std.proofs.Common.{arith}
use Rattle.lasp_logset.proofs.NearLaws.{passed-back, passed-chain}
use Rattle.lasp_logset.proofs.places.Places.newest_before.Goals as goal

pub scan_back-behind-requires : goal.scan_back-behind-requires
scan_back-behind-requires c = omega (arith, c.requires.since, c.len-first.ensures, c.args.self.now.older.ok.0)

pub returns-then-behind-first-clause-found : goal.returns-then-behind-first-clause-found
returns-then-behind-first-clause-found c = λ k is. c.scan_back-behind.ensures.found k is (omega (arith, is, c.if-behind-first.true))

pub returns-then-behind-first-clause-passed : goal.returns-then-behind-first-clause-passed
returns-then-behind-first-clause-passed c = λ i row less.
    passed-back i c.len-first.result c.args.place c.scan_back-behind.result (λ low lt. c.scan_back-behind.ensures.passed i row low lt) (omega (arith, c.if-behind-first.true)) less

pub returns-clause-passed : goal.returns-clause-passed
returns-clause-passed c = λ i row less.
    passed-chain i c.len-first.result c.args.place c.scan_back-behind.result c.newest_row.result (λ low lt. c.scan_back-behind.ensures.passed i row low lt) (omega (arith, c.if-behind-first.false))
    (λ low. c.newest_row.ensures.passed i row (omega (arith, low, c.len-first.ensures, c.args.self.now.older.ok.0))) less

pub returns-clause-falls : goal.returns-clause-falls
returns-clause-falls c = omega (arith, c.newest_row.ensures.within, c.requires.since)
