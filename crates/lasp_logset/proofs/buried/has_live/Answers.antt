use Rattle.std.proofs.Common.{◌-◌, ap, nat_lt, sym, ◌∙◌, arith}
use Rattle.lasp_value.specs.Value.{val_of}
use Rattle.lasp_logset.proofs.LiveLaws.{none-live}
use Rattle.lasp_logset.proofs.buried.has_live.Goals as goal

pub returns-then-newest_row-gt0-clause-some : goal.returns-then-newest_row-gt0-clause-some
returns-then-newest_row-gt0-clause-some c = λ _. (c.newest_row.result - 1, c.newest_row.ensures.found (c.newest_row.result - 1) (omega (arith, c.if-newest_row-gt0.true)))

pub returns-clause-none : goal.returns-clause-none
returns-clause-none c = λ past i live.
    none-live c.args.rows.now.entries (val_of c.args.value.now) i c.len.result c.newest_row.result c.scan_live.result live
    (λ lt. c.newest_row.ensures.passed i live (omega (arith, lt, c.len.ensures, c.args.chains.now.older.ok.0))) (omega (arith, c.if-newest_row-gt0.false)) (λ low. c.scan_live.ensures.passed i live low)
    (ap (nat_lt c.scan_live.result) (sym c.len-2.ensures.len) ∙ past)
