use Rattle.std.proofs.Common.{sym, ◌∙◌}
use Rattle.lasp_replica.proofs.NewsLaws.{rows-joined}
use Rattle.lasp_replica.proofs.replica.sizes.new_part.Goals as goal

pub returns-clause-joined : goal.returns-clause-joined
returns-clause-joined c = rows-joined c.args.s.now c.args.change c.in_ok-rows.rows (c.is_set.ensures.0 c.if-not-is_set.false) c.requires c.in_ok-rows.ensures

pub returns-clause-shape : goal.returns-clause-shape
returns-clause-shape c = sym (c.is_set.ensures.0 c.if-not-is_set.false) ∙ c.requires
