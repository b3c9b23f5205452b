use Rattle.std.proofs.Common.{sym}
use Rattle.lasp_logset.proofs.KeptLaws.{level_here, level_known}
use Rattle.lasp_logset.proofs.near.level_near.Goals as goal

pub returns-then-eq : goal.returns-then-eq
returns-then-eq c =
    level_here c.args.rows.now.entries c.args.name.now c.in-Some.known.now c.in-Some.dead.now c.eq.result c.level_of.result c.len-count.ensures.unique c.in-Some.ensures.value c.eq.ensures c.if-eq.true c.level_of.ensures

pub returns-in-Some-get_full : goal.returns-in-Some-get_full
returns-in-Some-get_full c =
    level_known c.args.rows.now.entries c.args.name.now c.in-Some-get_full.dead.now c.level_of-in-Some-get_full.result c.len-count.ensures.unique (sym c.in-Some-get_full.ensures.value) c.level_of-in-Some-get_full.ensures
