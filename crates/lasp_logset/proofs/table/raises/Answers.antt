use Rattle.std.proofs.Common.{sym}
use Rattle.lasp_logset.proofs.KeptLaws.{raises_known}
use Rattle.lasp_logset.proofs.table.raises.Goals as goal

pub returns-in-Some : goal.returns-in-Some
returns-in-Some c =
    raises_known c.args.rows.now.entries c.args.name.now c.in-Some.known.now c.args.dead c.is_more.result c.len-count.ensures.unique (sym c.in-Some.ensures.value) c.is_more.ensures
