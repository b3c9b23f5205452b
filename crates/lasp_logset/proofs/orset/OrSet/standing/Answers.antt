use Rattle.std.proofs.Common.{sym, ◌∙◌}
use Rattle.lasp_logset.proofs.PassLaws.{standing-rows, standing-apart}
use Rattle.lasp_logset.proofs.orset.OrSet.standing.Goals as goal

pub returns-clause-rows : goal.returns-clause-rows
returns-clause-rows c = standing-rows c.log-log.result.now.items c.in_ok-known.known c.iter.result c.of_standing.result (c.in_ok-known.ensures ∙ sym c.log-log.ensures.rows) c.iter.ensures c.of_standing.ensures ∙ c.log-log.ensures.rows

pub returns-clause-apart : goal.returns-clause-apart
returns-clause-apart c = standing-apart c.log-log.result.now.items c.in_ok-known.known c.iter.result c.of_standing.result (c.in_ok-known.ensures ∙ sym c.log-log.ensures.rows) c.iter.ensures c.of_standing.ensures c.log-log.ensures.rises
