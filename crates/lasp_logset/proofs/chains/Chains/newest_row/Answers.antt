use Rattle.lasp_value.specs.Value.{val_of}
use Rattle.lasp_logset.specs.Chains.{value_hash}
use Rattle.lasp_logset.proofs.ChainLaws.{row-live}
use Rattle.lasp_logset.proofs.chains.Chains.newest_row.Goals as goal

pub returns-clause-passed : goal.returns-clause-passed
returns-clause-passed c = λ i there lt.
    c.live_from.ensures.passed i there
    (rw (c.begin.ensures, c.hash_of.ensures) (c.requires.newest_live (value_hash (val_of c.args.value.now)) i lt (row-live c.args.rows.now.entries (val_of c.args.value.now) i there)))
